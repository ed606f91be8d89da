-- The one theorem on the table of pencil checks.
pub mod Checked
