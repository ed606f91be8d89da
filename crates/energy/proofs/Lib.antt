-- Laws of the energies.
pub mod Lists
pub mod Powers
pub mod Weights
pub mod Scaled
pub mod Thresholds
pub mod Starts
pub mod Inverses
pub mod Laid
pub mod Turns
pub mod Counted
pub mod Threes
pub mod Amounts
pub mod Between
pub mod Times
pub mod Bounds
