-- Document 01, "Quantities and ranges": the two units, the range, a reading and what it becomes.

-- "Measured values are whole tenths of a decibel; ratings, targets and rounded terms are whole decibels."
pub use Rattle.quantity.specs.declared.quantities.Tenths.{Tenths}
pub use Rattle.quantity.specs.declared.quantities.Decibels.{Decibels}
pub use Rattle.quantity.specs.declared.quantities.Hundredths.{Hundredths}
pub use Rattle.quantity.specs.declared.quantities.BandSet.{BandSet}
pub use Rattle.quantity.specs.Quantities.{band_of}
-- "Every measured or derived band value lies in -200..1500 tenths."
unfoldable pub use Rattle.quantity.specs.Quantities.{in_range}
-- "A reading is a level, a limit value, or missing"
pub use Rattle.quantity.specs.declared.quantities.Reading.{Reading}
-- "It becomes the tenth nearest its exact binary value, a tie going to the greater. The range is tested after that."
unfoldable pub use Rattle.intake.specs.Nearest.{nearest_to}
pub use Rattle.intake.specs.Nearest.{nearest}
pub use Rattle.intake.specs.Taken.{taken, ranged}
unfoldable pub use Rattle.intake.specs.Taken.{float_taken, taken_of}
pub use Rattle.intake.specs.declared.singles.Taken.{Taken}
