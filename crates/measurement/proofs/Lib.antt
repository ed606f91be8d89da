-- Laws of lists of readings.
pub mod Filling
pub mod Runs
pub mod Meaning
pub mod Past
