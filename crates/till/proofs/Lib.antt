-- Laws of the register's calls for the C door.
pub mod Bills
pub mod Meaning
