-- The four kinds: what each owns, in the order of document 01; then what the code works with inside.
pub mod Kinds
pub mod Numbers
