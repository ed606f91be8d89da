-- Laws of the register.
pub mod Places
pub mod Soundness
pub mod Dues
pub mod Seen
pub mod Fits
