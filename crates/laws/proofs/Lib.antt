-- Laws of the general definitions.
pub mod Ints
pub mod Floor
pub mod Counted
pub mod Extremes
pub mod Sums
pub mod Table
pub mod Lists
pub mod Tests
pub mod Ranges
pub mod Fronts
pub mod Bits
