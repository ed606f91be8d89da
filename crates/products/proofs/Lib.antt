-- Laws of covers and grades.
pub mod Signed
pub mod Improvements
pub mod Meaning
pub mod Past
