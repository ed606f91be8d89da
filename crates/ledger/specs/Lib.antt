-- What a closing leaves, and what histories of bills and closings add up to.
pub mod Closings
pub mod Histories
