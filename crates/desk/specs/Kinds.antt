-- Document 01, "Quantities and ranges": "Each kind owns its band count, its sum limit and its reference values"; and the spectra
-- of the terms, from "Sums of energies".
pub use Rattle.kinds.specs.declared.kinds.Kind.{Kind}
pub use Rattle.kinds.specs.Kinds.{airborne, bands_of, limit_of}
unfoldable pub use Rattle.kinds.specs.Kinds.{references_of, reference_of, spectra_c, spectra_ctr, C, Ctr}
