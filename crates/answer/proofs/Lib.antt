-- Laws of answers: decimal texts, fields one after another, and what the field writers leave.
pub mod Decimals
pub mod Fields
pub mod Writers
