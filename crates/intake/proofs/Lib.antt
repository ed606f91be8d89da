-- Laws of float intake.
pub mod Nearest
pub mod Fields
pub mod Shifts
pub mod Ranges
pub mod Meaning
pub mod Examples
