-- Laws of the C calls.
pub mod Fits
