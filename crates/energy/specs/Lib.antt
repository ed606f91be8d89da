-- Sums of energies, in the order of document 01, and the tables as they are lent.
pub mod Energies
pub mod Means
pub mod Corrections
pub mod Tabled
