-- Laws of the rating.
pub mod Bridge
pub mod Meaning
pub mod Weighing
pub mod Sheeted
pub mod RatedLaws
pub mod Small
pub mod Theorems
pub mod Sums
pub mod Starts
