-- Sets of bands and the value of a lifted band, as document 01 has them for the lift list; then what the code works with inside.
pub mod Masks
pub mod Highest
pub mod Gains
