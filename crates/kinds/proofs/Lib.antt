-- Laws of the kinds.
pub mod Numbered
pub mod Facts
