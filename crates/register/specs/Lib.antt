-- The register of request keys: what a call comes to and leaves.
pub mod Registers
pub mod Looks
pub mod Steps
