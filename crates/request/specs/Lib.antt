-- Requests, in the order of document 01: their texts, how they are read, and what is gathered of their bands.
pub mod Texts
pub mod Reading
pub mod Gathering
