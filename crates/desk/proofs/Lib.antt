-- Laws of the open library.
pub mod Joined
pub mod Answers
pub mod Past
