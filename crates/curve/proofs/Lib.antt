-- Laws of levels.
pub mod Walks
pub mod Counted
pub mod Searched
