-- What the C door adds to the definitions of the register.
pub mod Registers
