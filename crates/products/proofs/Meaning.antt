-- What the definitions mean: after 48 readings none of which is refused a grade is always given. Assumes nothing.
use mathlib.Core.Path.{◌≡◌, refl, ap}
use mathlib.Core.List.{List}
use Rattle.quantity.specs.declared.quantities.BandSet.{BandSet}
use Rattle.quantity.specs.declared.quantities.Reading.{Reading}
use Rattle.measurement.specs.Lists.{refusal_in, values_in, marks_in}
use Rattle.kinds.specs.declared.kinds.Kind.TheVariants.{A3}
use Rattle.rating.specs.Sheets.{sheet_of}
use Rattle.rating.proofs.RatedLaws.{in_order}
use Rattle.means.specs.Sets.{placed, means_of, specimens_of}
use Rattle.means.proofs.Meaning.{len_is, specimens-are, specimens-accepted}
use Rattle.products.specs.declared.grades.Side.{Side}
use Rattle.products.specs.Grades.{sheet_grade, graded_by, grades_of}
use Rattle.std.specs.Prelude.{Ok, None}

-- the means of the readings, and what their sheet says
pub record Given (readings : List Reading) (side : Side) : Type 0 where
  pub means : BandSet
  pub taken : Ok means ≡ specimens_of readings 48
  pub graded : Ok (sheet_grade side (sheet_of A3 means)) ≡ grades_of readings 48 side

-- neither 1 nor 4 can come from the means of accepted readings
pub grade-given : (readings : List Reading) → refusal_in readings 48 ≡ None → (side : Side) → Given readings side
unfolding grades_of
grade-given readings acc side =
    let values = placed (values_in readings 48 48) in
    let marks = marks_in readings 48 in
    let s : BandSet = means_of values marks 16 1 16 in
    let taken = specimens-are readings acc in
    let rated = in_order A3 s 16 (sheet_of A3 s) refl (len_is values marks 16 1 16) (specimens-accepted readings acc s taken) refl in
    record { means = s; taken = taken; graded = rw (← taken) (ap (graded_by side) rated) }
