-- Laws of lines: where an answer is placed, turns, blocks and runs, how long an answer is, and when a call stops.
pub mod Placing
pub mod Turns
pub mod Runs
pub mod Feeds
pub mod Meaning
pub mod Lengths
pub mod Stops
