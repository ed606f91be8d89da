-- Laws of rooms.
pub mod Rules
pub mod Meaning
