-- The corrections and the raw band, in the order of document 01.
pub mod Background
pub mod Raw
