-- The mean of three values, and sets of such means, in the order of document 01.
pub mod Means
pub mod Sets
