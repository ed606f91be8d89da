-- Laws of the program: bytes that are moved, what the calls of a run come to, and what that makes of an input and an output.
pub mod Moves
pub mod Follows
pub mod Streams
