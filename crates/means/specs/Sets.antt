-- Document 01, "Sums of energies" and "Background and reverberation": octaves from an A3 set, and the means of three specimens,
-- with their marks. Both are means of three values at places j * step, and one and two strides further.
use Rattle.std.specs.Prelude.{Bool, cond, ◌||◌, List, ℕ, zero, suc, ◌+◌, ◌*◌, eqb, ltb, ℤ, pos, get_or, Result, Ok, Err}
use Rattle.laws.specs.Lists.{listed}
use Rattle.quantity.specs.Quantities.{band_of, tenths, nought}
use Rattle.quantity.specs.declared.quantities.Tenths.{Tenths}
use Rattle.quantity.specs.declared.quantities.BandSet.{BandSet}
use Rattle.quantity.specs.declared.quantities.Reading.{Reading}
use Rattle.quantity.specs.declared.refusals.Refusal.{Refusal}
use Rattle.quantity.specs.declared.refusals.Refusal.TheVariants.{BandCount, BandRange, SpecimenCount}
use Rattle.measurement.specs.declared.lists.Readings.{Readings}
use Rattle.measurement.specs.Lists.{weight_of, all_of}
use Rattle.curve.specs.Bands.{accepted}
use Rattle.laws.specs.Tests.{bit}
use Rattle.kinds.specs.declared.kinds.Kind.TheVariants.{A3, A1}
use Rattle.kinds.specs.Kinds.{bands_of}
use Rattle.means.specs.Means.{mean_of₃}

-- bit j of the number is f j, for j below n
unfoldable pub marks_to : (ℕ → Bool) → ℕ → ℕ
marks_to f zero = 0
marks_to f (suc n) = marks_to f n + weight_of (f n) n

-- the mean of three of the values x, and the mark of three of the marks: "a limit if any of its three values is"
abbrev pub mean_at : (ℕ → ℤ) → ℕ → ℕ → ℕ → ℤ
mean_at x step stride j = mean_of₃ (x (j * step)) (x (j * step + stride)) (x (j * step + 2 * stride))

abbrev pub marked₃ : ℕ → ℕ → ℕ → Bool
marked₃ marks i stride = bit marks i || (bit marks (i + stride) || bit marks (i + 2 * stride))

abbrev pub mark_at : ℕ → ℕ → ℕ → ℕ → Bool
mark_at marks step stride j = marked₃ marks (j * step) stride

-- n means as a band set, values past them 0
unfoldable pub means_of : (ℕ → ℤ) → ℕ → ℕ → ℕ → ℕ → BandSet
means_of x marks n step stride = record {
  values = listed (λ j. cond (ltb j n) (tenths (mean_at x step stride j)) (tenths (pos 0))) 16 0;
  marks = marks_to (mark_at marks step stride) n;
  len = n;
}

-- "the mean of bands 1 to 3, 4 to 6, and so on to 13 to 15. The last third is not used."
unfoldable pub octaves_of : BandSet → Result BandSet Refusal
octaves_of s =
    cond (eqb s.len (bands_of A3))
    (cond (accepted s (bands_of A3)) (Ok (means_of (band_of s) s.marks (bands_of A1) 3 1)) (Err BandRange))
    (Err BandCount)

-- the value at a place of a list
abbrev pub placed : List Tenths → ℕ → ℤ
placed values i = (get_or values i nought).0

-- "48 readings, specimen after specimen, each from its lowest band": band j of the three is at j, j + 16 and j + 32
abbrev pub specimens_by : Result Readings Refusal → Result BandSet Refusal
specimens_by (Ok r) = Ok (means_of (placed r.values) r.marks (bands_of A3) 1 (bands_of A3))
specimens_by (Err n) = Err n

unfoldable pub specimens_of : List Reading → ℕ → Result BandSet Refusal
specimens_of readings len = cond (eqb len 48) (specimens_by (all_of readings 48)) (Err SpecimenCount)
