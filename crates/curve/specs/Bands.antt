-- Tests over all bands of a set: that each value is in range, and that some band is a limit value.
use Rattle.std.specs.Prelude.{Bool, ℕ}
use Rattle.laws.specs.Tests.{all_to, any_to, bit}
use Rattle.quantity.specs.Quantities.{in_range, band_of}
use Rattle.quantity.specs.declared.quantities.BandSet.{BandSet}

-- the first n bands of the set are all band values
unfoldable pub accepted : BandSet → ℕ → Bool
accepted s n = all_to (λ i. in_range (band_of s i)) n

-- "A set with any limit band is marked as a limit set"
unfoldable pub limited : BandSet → ℕ → Bool
limited s n = any_to (bit s.marks) n
