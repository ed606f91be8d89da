-- The calls on tenths and on readings: what they answer, by the definitions before.
use Rattle.std.specs.Prelude.{List, ℕ, Result, Ok, Err}
use Rattle.quantity.specs.declared.quantities.BandSet.{BandSet}
use Rattle.quantity.specs.declared.quantities.Reading.{Reading}
use Rattle.quantity.specs.declared.refusals.Refusal.{Refusal}
use Rattle.measurement.specs.Lists.{list_of}
use Rattle.kinds.specs.declared.kinds.Kind.{Kind}
use Rattle.kinds.specs.Kinds.{bands_of}
use Rattle.rating.specs.declared.sheets.Sheet.{Sheet}
-- a rating from tenths: "1", then "4" for the lowest band out of range, else the sheet
unfoldable pub use Rattle.rating.specs.Sheets.{rated_of}

-- the rating of what the intake of a list gives
abbrev pub rated_by : Kind → Result BandSet Refusal → Result Sheet Refusal
rated_by k (Ok s) = rated_of k s
rated_by k (Err r) = Err r

-- a rating from readings: "1; then bands from the lowest, each 3, 2, 4"
unfoldable pub readings_rated : Kind → List Reading → ℕ → Result Sheet Refusal
readings_rated k readings len = rated_by k (list_of readings len (bands_of k))
