-- Laws of means.
pub mod Averages
pub mod Marks
pub mod Thirds
pub mod Meaning
pub mod Past
