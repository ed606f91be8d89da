-- The answer of each C call.
pub mod Ratings
pub mod Rooms
pub mod Lifts
pub mod Lines
