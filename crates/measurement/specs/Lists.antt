-- Document 01, "Refusal numbers": "bands from the lowest, each 3, 2, 4"; and the set that a list of readings becomes.
use Rattle.std.specs.Prelude.{Bool, true, false, cond, List, [], ◌∷◌, ◌++◌, ℕ, zero, suc, ◌+◌, ◌^◌, ltb, eqb, ℤ, pos, get_or, take, Option, None, Some, Result, Ok, Err}
use Rattle.std.specs.Float.{nan}
use Rattle.laws.specs.Lists.{listed}
use Rattle.quantity.specs.declared.quantities.Tenths.{Tenths}
use Rattle.quantity.specs.declared.quantities.BandSet.{BandSet}
use Rattle.quantity.specs.declared.quantities.Reading.{Reading}
use Rattle.quantity.specs.declared.quantities.Reading.TheVariants.{Level}
use Rattle.quantity.specs.declared.refusals.Refusal.{Refusal}
use Rattle.quantity.specs.declared.refusals.Refusal.TheVariants.{BandCount}
use Rattle.quantity.specs.Quantities.{band_of, nought}
use Rattle.quantity.specs.Refusals.{number_of, or_else}
use Rattle.quantity.specs.Answers.{Answer}
use Rattle.quantity.specs.Answers.Answer.{refused, numbers}
use Rattle.intake.specs.declared.singles.Taken.{Taken}
use Rattle.measurement.specs.declared.lists.Readings.{Readings}
use Rattle.intake.specs.Taken.{taken_of}

-- what becomes of reading i, counted from 0 (past the end of a list `get_or` gives its default, which no call asks for)
abbrev pub taken_at : List Reading → ℕ → Result Taken Refusal
taken_at readings i = taken_of (get_or readings i (Level nan))

-- the value and the mark of a reading that was taken
abbrev pub value_of : Result Taken Refusal → Tenths
value_of (Ok x) = x.value
value_of (Err r) = nought

abbrev pub limit_of : Result Taken Refusal → Bool
limit_of (Ok x) = x.limit
limit_of (Err r) = false

-- the refusal that a reading gives, if any
abbrev pub fault_of : Result Taken Refusal → Option Refusal
fault_of (Ok x) = None
fault_of (Err r) = Some r

-- the first refusal among the first n readings, from the lowest
unfoldable pub refusal_in : List Reading → ℕ → Option Refusal
refusal_in readings zero = None
refusal_in readings (suc n) = or_else (refusal_in readings n) (fault_of (taken_at readings n))

-- what a limit value adds to the marks at place i: bit i
abbrev pub weight_of : Bool → ℕ → ℕ
weight_of true i = 2 ^ i
weight_of false i = 0

-- the marks of the first n readings
unfoldable pub marks_in : List Reading → ℕ → ℕ
marks_in readings zero = 0
marks_in readings (suc n) = marks_in readings n + weight_of (limit_of (taken_at readings n)) n

-- the values of the first n readings, then zeros: k values in all
abbrev pub value_in : List Reading → ℕ → ℕ → Tenths
value_in readings n i = cond (ltb i n) (value_of (taken_at readings i)) nought

unfoldable pub values_in : List Reading → ℕ → ℕ → List Tenths
unfolding listed
values_in readings n k = listed (value_in readings n) k 0

-- the first n readings. "A refusal returns only its number": nothing else is told
abbrev pub all_by : Option Refusal → List Reading → ℕ → Result Readings Refusal
all_by None readings n = Ok (record { values = values_in readings n 48; marks = marks_in readings n })
all_by (Some r) readings n = Err r

unfoldable pub all_of : List Reading → ℕ → Result Readings Refusal
all_of readings n = all_by (refusal_in readings n) readings n

-- the set of the first n readings: n values, and zeros past them
abbrev pub set_of : List Reading → ℕ → BandSet
set_of readings n = record { values = values_in readings n 16; marks = marks_in readings n; len = n }

-- a band list for a kind of `bands` bands: "1: number of bands is not the kind's", then the bands from the lowest
abbrev pub list_by : Option Refusal → List Reading → ℕ → Result BandSet Refusal
list_by None readings n = Ok (set_of readings n)
list_by (Some r) readings n = Err r

unfoldable pub list_of : List Reading → ℕ → ℕ → Result BandSet Refusal
list_of readings len bands = cond (eqb len bands) (list_by (refusal_in readings bands) readings bands) (Err BandCount)

-- the lowest sixteen values
abbrev pub head_of : List Tenths → List Tenths
head_of values = take 16 values

-- in the paper's numbers: the first n values of the set, then its marks; or the refusal
unfoldable pub set_numbers : BandSet → ℕ → List ℤ
set_numbers s n = listed (band_of s) n 0 ++ (pos s.marks ∷ [])

abbrev pub intake_answer : Result BandSet Refusal → ℕ → Answer ℤ
intake_answer (Ok s) n = numbers (set_numbers s n)
intake_answer (Err r) n = refused (number_of r)
