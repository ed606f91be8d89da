-- Document 01, "Quantities and ranges": what becomes of one reading.
-- Its order of refusals is 3, 2, 4.
use Rattle.std.specs.Prelude.{Bool, true, false, cond, [], ◌∷◌, ℤ, Float, Result, Ok, Err}
use Rattle.std.specs.Float.{nan, inf, fin}
use Rattle.quantity.specs.Quantities.{in_range, tenths}
use Rattle.quantity.specs.Refusals.{number_of}
use Rattle.quantity.specs.Answers.{Answer, flag}
use Rattle.quantity.specs.Answers.Answer.{refused, numbers}
use Rattle.quantity.specs.declared.quantities.Reading.{Reading}
use Rattle.quantity.specs.declared.quantities.Reading.TheVariants.{Level, Limit, Missing}
use Rattle.quantity.specs.declared.refusals.Refusal.{Refusal}
use Rattle.quantity.specs.declared.refusals.Refusal.TheVariants.{NotFinite, ReadingMissing, BandRange}
use Rattle.intake.specs.declared.singles.Taken.{Taken}
use Rattle.intake.specs.Nearest.{nearest}

-- a value of so many tenths, with its mark
abbrev pub taken : ℤ → Bool → Taken
taken t limit = record { value = tenths t; limit = limit }

-- "The range is tested after that."
abbrev pub ranged : Bool → ℤ → Result Taken Refusal
ranged limit t = cond (in_range t) (Ok (taken t limit)) (Err BandRange)

-- "It becomes the tenth nearest its exact binary value, a tie going to the greater."
unfoldable pub float_taken : Bool → Float → Result Taken Refusal
float_taken limit nan = Err NotFinite
float_taken limit (inf s) = Err NotFinite
float_taken limit (fin s m e) = ranged limit (nearest 10 s m e)

-- "A reading is a level, a limit value, or missing, the first two carrying the analyser's 32-bit float."
unfoldable pub taken_of : Reading → Result Taken Refusal
unfolding float_taken
taken_of (Level x) = float_taken false x
taken_of (Limit x) = float_taken true x
taken_of Missing = Err ReadingMissing

-- in the paper's numbers: the value in tenths and its mark, or the refusal
abbrev pub taken_answer : Result Taken Refusal → Answer ℤ
taken_answer (Ok x) = numbers (x.value.0 ∷ flag x.limit ∷ [])
taken_answer (Err r) = refused (number_of r)
