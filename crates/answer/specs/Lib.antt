-- Answer lines: their texts.
pub mod Texts
