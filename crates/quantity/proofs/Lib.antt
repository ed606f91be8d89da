-- Laws of the quantities, of their rounding, of keys and of answers.
pub mod Rim
pub mod Halves
pub mod Counts
pub mod Shapes
pub mod Answers
