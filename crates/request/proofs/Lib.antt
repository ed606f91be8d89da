-- Laws of requests: single bytes, texts at a position, readers, and their exactness.
pub mod Leaves
pub mod Readers
pub mod Stands
pub mod Exact
pub mod Gathers
pub mod Wholes
