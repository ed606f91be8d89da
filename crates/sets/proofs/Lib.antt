-- Laws of sets of bands and their gains.
pub mod Bits
pub mod Filters
pub mod Order
pub mod Enumeration
pub mod Counting
pub mod Minimal
pub mod Joining
