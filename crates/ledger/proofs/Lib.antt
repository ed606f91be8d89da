-- Laws of closings, and theorems over histories of bills and closings.
pub mod Moves
pub mod Sameness
pub mod Grown
pub mod Rest
pub mod Since
pub mod Histories
pub mod Retries
pub mod Asked
pub mod Alike
pub mod Reached
pub mod Came
pub mod MonthEnd
