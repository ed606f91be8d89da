-- Laws of sets put together band by band.
pub mod Joined
