-- Document 01, "Refusal numbers", and those of document 02, request (x), from 16 on: the number of each case, and the first
-- refusal of two.
use Rattle.std.specs.Prelude.{ℕ, Option, None, Some}
use Rattle.quantity.specs.declared.refusals.Refusal.{Refusal}
use Rattle.quantity.specs.declared.refusals.Refusal.TheVariants.{BandCount, NotFinite, ReadingMissing, BandRange, BackgroundTooNear, DerivedRange, TimeRange, TargetNotBetter, TargetRange, OutputTooSmall, NotARequest, SpecimenCount, PriceRange, OtherBands, RegisterFull, RegisterDamaged}

abbrev pub number_of : Refusal → ℕ
number_of BandCount = 1
number_of NotFinite = 2
number_of ReadingMissing = 3
number_of BandRange = 4
number_of BackgroundTooNear = 5
number_of DerivedRange = 6
number_of TimeRange = 7
number_of TargetNotBetter = 8
number_of TargetRange = 9
number_of OutputTooSmall = 10
number_of NotARequest = 11
number_of SpecimenCount = 12
number_of PriceRange = 16
number_of OtherBands = 17
number_of RegisterFull = 18
number_of RegisterDamaged = 19

-- of two tests in their order, each with the refusal that it gives, if any: the first that stands is kept
abbrev pub or_else : Option Refusal → Option Refusal → Option Refusal
or_else None o = o
or_else (Some r) o = Some r
