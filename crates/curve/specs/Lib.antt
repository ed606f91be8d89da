-- Tests over the bands of a set, and their levels.
pub mod Bands
pub mod Levels
