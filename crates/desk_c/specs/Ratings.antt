-- The answers of the calls on readings and ratings.
use Rattle.std.specs.Prelude.{List, ℕ, ℤ, Float, length, Option, None, Some}
use Rattle.intake.specs.Taken.{taken_of, taken_answer}
use Rattle.kinds.specs.declared.kinds.Kind.{Kind}
use Rattle.kinds.specs.Kinds.{kind_of}
use Rattle.rating.specs.Sheets.{rated_of, rated_answer}
use Rattle.quantity.specs.Answers.{Answer}
use Rattle.quantity.specs.Answers.Answer.{refused}
use Rattle.door.specs.Lists.{set_from, reading_from, readings_from}
use Rattle.desk.specs.Calls.{readings_rated}

-- an unknown kind number owns no band count and is refused with 1
abbrev pub by_kind : Option Kind → (Kind → Answer ℤ) → Answer ℤ
by_kind (Some kind) answer = answer kind
by_kind None answer = refused 1

-- imbrolt_take_reading
unfoldable pub reading_answer : ℕ → Float → Answer ℤ
reading_answer mark x = taken_answer (taken_of (reading_from mark x))

-- imbrolt_rate
unfoldable pub rate_answer : ℕ → List ℤ → ℕ → Answer ℤ
rate_answer kind values marks = by_kind (kind_of kind) (λ k. rated_answer (rated_of k (set_from values marks)))

-- imbrolt_rate_readings
unfoldable pub readings_answer : ℕ → List ℕ → List Float → Answer ℤ
readings_answer kind marks values =
    by_kind (kind_of kind) (λ k. rated_answer (readings_rated k (readings_from marks values) (length values)))
