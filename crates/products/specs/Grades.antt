-- Document 01, "Covers and grades": the grade of a door or window from three specimens (004, table 1).
use Rattle.std.specs.Prelude.{cond, List, [], ◌∷◌, ℕ, ℤ, pos, ◌+ℤ◌, Result, Ok, Err}
use Rattle.std.specs.Int.Signed.{lt_z}
use Rattle.quantity.specs.Refusals.{number_of}
use Rattle.quantity.specs.Answers.{Answer, flag}
use Rattle.quantity.specs.Answers.Answer.{refused, numbers}
use Rattle.quantity.specs.declared.quantities.BandSet.{BandSet}
use Rattle.quantity.specs.declared.quantities.Reading.{Reading}
use Rattle.quantity.specs.declared.refusals.Refusal.{Refusal}
use Rattle.kinds.specs.declared.kinds.Kind.TheVariants.{A3}
use Rattle.rating.specs.declared.sheets.Sheet.{Sheet}
use Rattle.rating.specs.Sheets.{rated_of, decibels, term_of}
use Rattle.means.specs.Sets.{specimens_of}
use Rattle.products.specs.declared.grades.Side.{Side}
use Rattle.products.specs.declared.grades.Side.TheVariants.{Outside, Inside}
use Rattle.products.specs.declared.grades.Grade.{Grade}

-- "Under 20 grade 0; 20 to 24 grade 1; 25 to 29, 2; 30 to 34, 3; 35 to 39, 4; 40 to 44, 5; from 45, 6."
unfoldable pub grade_of : ℤ → ℕ
grade_of z =
    cond (lt_z z (pos 20)) 0 (cond (lt_z z (pos 25)) 1 (cond (lt_z z (pos 30)) 2 (cond (lt_z z (pos 35)) 3
    (cond (lt_z z (pos 40)) 4 (cond (lt_z z (pos 45)) 5 6)))))

-- "the deciding number is rating + Ctr for outside doors and windows, rating + C for inside ones"
abbrev pub deciding_of : Side → Sheet → ℤ
deciding_of Outside sheet = sheet.rating.0 +ℤ term_of sheet.second
deciding_of Inside sheet = sheet.rating.0 +ℤ sheet.first.0

abbrev pub sheet_grade : Side → Sheet → Grade
sheet_grade side sheet = record {
  rating = sheet.rating;
  c = sheet.first;
  ctr = decibels (term_of sheet.second);
  deciding = decibels (deciding_of side sheet);
  grade = grade_of (deciding_of side sheet);
  limit = sheet.limit;
}

abbrev pub graded_by : Side → Result Sheet Refusal → Result Grade Refusal
graded_by side (Ok sheet) = Ok (sheet_grade side sheet)
graded_by side (Err r) = Err r

abbrev pub graded : Side → Result BandSet Refusal → Result Grade Refusal
graded side (Ok s) = graded_by side (rated_of A3 s)
graded side (Err r) = Err r

-- "from the band means of three A3 sets given as 48 readings"
unfoldable pub grades_of : List Reading → ℕ → Side → Result Grade Refusal
grades_of readings len side = graded side (specimens_of readings len)

-- in the paper's numbers: rating, C, Ctr, deciding number, grade, mark; or the refusal
abbrev pub grade_numbers : Grade → List ℤ
grade_numbers g = g.rating.0 ∷ g.c.0 ∷ g.ctr.0 ∷ g.deciding.0 ∷ pos g.grade ∷ flag g.limit ∷ []

abbrev pub graded_answer : Result Grade Refusal → Answer ℤ
graded_answer (Ok g) = numbers (grade_numbers g)
graded_answer (Err r) = refused (number_of r)
