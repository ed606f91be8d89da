-- The table of pencil checks.
pub mod Cases
