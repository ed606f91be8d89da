-- What the C door adds to the definitions: numbers for sides and readings, and answers in lent arrays.
pub mod Answers
pub mod Sides
pub mod Lists
pub mod Given
