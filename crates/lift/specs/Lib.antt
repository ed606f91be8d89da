-- The lift list, in the order of document 01: what a set of bands reaches, the list, the call.
pub mod Reach
pub mod Calls
