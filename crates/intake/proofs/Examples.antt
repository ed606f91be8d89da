-- Document 01's examples of readings, and the ends of what a float can be, by their bit patterns. Each is computed.
-- Assumes nothing.
use mathlib.Core.Path.{◌≡◌, refl}
use mathlib.Core.Bool.{true, false}
use Prim.Native.Nat.{ℕ}
use lib.IntN.{pos, negsuc}
use lib.Ieee.{binary32, of_bits, of_fields, odd}
use lib.Count.{count_trailing_zeros}
use Rattle.quantity.specs.Quantities.{in_range}
use Rattle.quantity.specs.declared.quantities.Reading.TheVariants.{Level, Limit, Missing}
use Rattle.quantity.specs.declared.refusals.Refusal.TheVariants.{NotFinite, ReadingMissing, BandRange, TimeRange}
use Rattle.intake.specs.Nearest.{nearest_to}
use Rattle.intake.specs.Taken.{taken, float_taken, taken_of}
use Rattle.intake.specs.Times.{in_time, time_of}
use Rattle.std.specs.Prelude.{Result, Ok, Err}
use Rattle.quantity.specs.declared.quantities.Hundredths.{Hundredths}
use Rattle.quantity.specs.declared.refusals.Refusal.{Refusal}
use Rattle.intake.specs.declared.singles.Taken.{Taken}

-- a level of those bits
abbrev pub level : ℕ → Result Taken Refusal
level bits = taken_of (Level (of_bits binary32 bits))

-- a time of those bits
abbrev pub seconds : ℕ → Result Hundredths Refusal
seconds bits = time_of (of_bits binary32 bits)

-- "0.25 gives 3, -0.25 gives -2, 150.03125 gives 1500; 150.0625 is refused. Negative zero is 0."
pub record Document : Type 0 where
  pub quarter : level 1048576000 ≡ Ok (taken (pos 3) false)
  pub minus-quarter : level 3196059648 ≡ Ok (taken (negsuc 1) false)
  pub just-in : level 1125517312 ≡ Ok (taken (pos 1500) false)
  pub just-out : level 1125519360 ≡ Err BandRange
  pub negative-zero : level 2147483648 ≡ Ok (taken (pos 0) false)

pub document : Document
unfolding taken_of float_taken of_bits of_fields odd count_trailing_zeros nearest_to in_range
document = record { quarter = refl; minus-quarter = refl; just-in = refl; just-out = refl; negative-zero = refl }

-- the least and the greatest in size, what is no number, and what carries no float
pub record Ends : Type 0 where
  pub smallest : level 1 ≡ Ok (taken (pos 0) false)
  pub smallest-below : level 2147483649 ≡ Ok (taken (pos 0) false)
  pub largest : level 2139095039 ≡ Err BandRange
  pub infinite : level 2139095040 ≡ Err NotFinite
  pub infinite-below : level 4286578688 ≡ Err NotFinite
  pub no_number : level 2143289344 ≡ Err NotFinite
  pub missing : taken_of Missing ≡ Err ReadingMissing
  pub limit : taken_of (Limit (of_bits binary32 1048576000)) ≡ Ok (taken (pos 3) true)

pub ends : Ends
unfolding taken_of float_taken of_bits of_fields odd count_trailing_zeros nearest_to in_range
ends = record {
  smallest = refl;
  smallest-below = refl;
  largest = refl;
  infinite = refl;
  infinite-below = refl;
  no_number = refl;
  missing = refl;
  limit = refl;
}

-- 0.125 s is a tie and goes up; the neighbours of 0.095 s fall on either side of the range's lower end; 20 s is its upper end
pub record Seconds : Type 0 where
  pub tie : seconds 1040187392 ≡ Ok (record { 0 = 13 })
  pub short : seconds 1036160860 ≡ Err TimeRange
  pub tenth : seconds 1036160861 ≡ Ok (record { 0 = 10 })
  pub twenty : seconds 1101004800 ≡ Ok (record { 0 = 2000 })
  pub long : seconds 1101008896 ≡ Err TimeRange
  pub below : seconds 3187671040 ≡ Err TimeRange
  pub infinite : seconds 2139095040 ≡ Err NotFinite

pub times : Seconds
unfolding time_of of_bits of_fields odd count_trailing_zeros nearest_to in_time
times = record { tie = refl; short = refl; tenth = refl; twenty = refl; long = refl; below = refl; infinite = refl }
