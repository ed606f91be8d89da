-- Laws of an entry.
pub mod Texts
pub mod Bands
pub mod Keys
pub mod Kept
pub mod Oks
