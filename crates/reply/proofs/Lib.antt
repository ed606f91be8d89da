-- Laws of replies: what the code answers to what it read.
pub mod Replies
