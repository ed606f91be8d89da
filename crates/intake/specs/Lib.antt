-- Float intake, in the order of document 01: the nearest unit, one reading, a reverberation time.
pub mod Nearest
pub mod Taken
pub mod Times
