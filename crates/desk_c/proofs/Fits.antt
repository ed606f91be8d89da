-- The count of shifts of every rating is at most 500, by the bound in its definition, and every grade at most 6, so that they
-- fit an answer. Assumes nothing.
use mathlib.Core.Path.{◌≡◌, refl, sym, subst}
use mathlib.Core.Bool.{Bool, true, false, cond}
use mathlib.Core.List.{List}
use Prim.Native.Nat.{ℕ, ◌≤◌}
use native.Mathlib.Omega.{arith}
use lib.IntN.{ℤ, pos}
use lib.Signed.{lt_z}
use Rattle.quantity.specs.declared.quantities.BandSet.{BandSet}
use Rattle.quantity.specs.declared.quantities.Reading.{Reading}
use Rattle.measurement.specs.Lists.{list_of}
use Rattle.kinds.specs.declared.kinds.Kind.{Kind}
use Rattle.kinds.specs.declared.kinds.Kind.TheVariants.{A3}
use Rattle.kinds.specs.Kinds.{bands_of}
use Rattle.rating.specs.Sheets.{rated_of, rated_answer}
use Rattle.products.specs.declared.grades.Side.{Side}
use Rattle.means.specs.Sets.{specimens_of}
use Rattle.products.specs.Grades.{grade_of, deciding_of, graded_by, graded, grades_of, graded_answer}
use Rattle.rating.proofs.Small.{rated-shifts}
use Rattle.door.specs.Given.{Fitting, GradeFits}
use Rattle.desk.proofs.Answers.{rated-one, graded-one}
use Rattle.desk.specs.Calls.{rated_by, readings_rated}
use Rattle.std.specs.Prelude.{Result, Ok, Err}
use Rattle.products.specs.declared.grades.Grade.{Grade}
use Rattle.quantity.specs.declared.refusals.Refusal.{Refusal}
use Rattle.rating.specs.declared.sheets.Sheet.{Sheet}

-- an answer of the same numbers fits too
fits-as : (r t : Result Sheet Refusal) → rated_answer r ≡ rated_answer t → Fitting t → Fitting r
fits-as r t e h = subst Fitting (sym (rated-one r t e)) h

rated-fits : (k : Kind) (s : BandSet) → Fitting (rated_of k s)
rated-fits k s = go (rated_of k s) refl
  where
    go : (t : Result Sheet Refusal) → rated_of k s ≡ t → Fitting t
    go (Ok sheet) e = rated-shifts k s sheet e
    go (Err r) e = tt

pub rate_fits : (k : Kind) (s : BandSet) (r : Result Sheet Refusal) → rated_answer r ≡ rated_answer (rated_of k s) → Fitting r
rate_fits k s r e = fits-as r (rated_of k s) e (rated-fits k s)

pub readings_fit : (k : Kind) (readings : List Reading) (len : ℕ) (r : Result Sheet Refusal) → rated_answer r ≡ rated_answer (readings_rated k readings len) → Fitting r
unfolding readings_rated
readings_fit k readings len r e = fits-as r (readings_rated k readings len) e (go (list_of readings len (bands_of k)))
  where
    go : (l : Result BandSet Refusal) → Fitting (rated_by k l)
    go (Ok s) = rated-fits k s
    go (Err r) = tt

-- ---- grades

grade-bound : (z : ℤ) → grade_of z ≤ 6
unfolding grade_of
grade-bound z =
    go (lt_z z (pos 20)) (go (lt_z z (pos 25)) (go (lt_z z (pos 30)) (go (lt_z z (pos 35)) (go (lt_z z (pos 40))
    (go (lt_z z (pos 45)) (omega arith) (omega arith)) (omega arith)) (omega arith)) (omega arith)) (omega arith)) (omega arith)
  where
    go : (b : Bool) {m n : ℕ} → n ≤ 6 → m ≤ 6 → cond b m n ≤ 6
    go true h k = k
    go false h k = h

pub grades_fit : (readings : List Reading) (len : ℕ) (side : Side) (r : Result Grade Refusal) → graded_answer r ≡ graded_answer (grades_of readings len side) → GradeFits r
unfolding grades_of
grades_fit readings len side r e =
    subst GradeFits (sym (graded-one r (graded side (specimens_of readings len)) e)) (go (specimens_of readings len))
  where
    by : (r : Result Sheet Refusal) → GradeFits (graded_by side r)
    by (Ok sheet) = grade-bound (deciding_of side sheet)
    by (Err r) = tt

    go : (l : Result BandSet Refusal) → GradeFits (graded side l)
    go (Ok s) = by (rated_of A3 s)
    go (Err r) = tt
