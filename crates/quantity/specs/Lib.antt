-- Quantities and refusals, in the order of document 01, the key of a request, and what an answer is in its numbers.
pub mod Quantities
pub mod Refusals
pub mod Keys
pub mod Answers
