-- Covers and grades, in the order of document 01.
pub mod Covers
pub mod Grades
