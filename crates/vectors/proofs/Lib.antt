-- Laws of the cases.
pub mod Patterns
