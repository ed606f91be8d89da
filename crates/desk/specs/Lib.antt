-- The whole statement: the definitions of the crates below, gathered in the order of document 01, then of document 02. Each line passes on names
-- under the sentence that they stand for; the definitions themselves are in the crate that the line names.
pub mod Quantities
pub mod Kinds
pub mod Rating
pub mod Energies
pub mod Terms
pub mod Background
pub mod Covers
pub mod Lift
pub mod Lines
pub mod Registers
pub mod Refusals
pub mod Answers
pub mod Calls
pub mod Version
