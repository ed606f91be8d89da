-- The rating of four kinds, in the order of document 01; last, what the code works with inside.
pub mod Curve
pub mod Terms
pub mod Sheets
pub mod Found
pub mod Bounds
