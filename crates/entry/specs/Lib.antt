-- What an entry of the register says, when two say the same, and the one that a call makes.
pub mod Entries
