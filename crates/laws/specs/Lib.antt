-- General definitions that the specifications of the other crates are written with.
pub mod Parts
pub mod Extremes
pub mod Sums
pub mod Lists
pub mod Tests
