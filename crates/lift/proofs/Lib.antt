-- Laws of the lift list.
pub mod Reached
pub mod Listing
pub mod Answers
pub mod Promise
pub mod Quick
pub mod Past
