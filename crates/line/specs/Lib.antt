-- Lines, in the order of document 01: whole runs and where an answer is written, and runs in parts.
pub mod Answers
pub mod Blocks
