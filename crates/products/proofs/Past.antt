-- What lies past the stated length of a band set, or of a list of specimens' readings, never matters to a cover or a grade.
-- Assumes nothing.
use mathlib.Core.Path.{◌≡◌, refl, sym, ◌∙◌, ap}
use mathlib.Core.Bool.{Bool}
use mathlib.Core.List.{List}
use Prim.Native.Nat.{ℕ, ◌<◌}
use borrow.Author.Tests.{ne_eqb}
use lib.IntN.{ℤ, ◌-ℤ◌}
use Rattle.laws.proofs.Lists.{listed_at}
use Rattle.quantity.specs.Quantities.{band_of, tenths, nought}
use Rattle.quantity.specs.declared.quantities.Tenths.{Tenths}
use Rattle.quantity.specs.declared.quantities.BandSet.{BandSet}
use Rattle.quantity.specs.declared.quantities.Reading.{Reading}
use Rattle.quantity.specs.declared.refusals.Refusal.TheVariants.{BandCount}
use Rattle.measurement.proofs.Past.{Alike}
use Rattle.laws.specs.Tests.{bit}
use Rattle.kinds.specs.declared.kinds.Kind.TheVariants.{I3}
use Rattle.rating.specs.Sheets.{rated_of}
use Rattle.rating.proofs.Theorems.{accepted-same, limited-same, Stated, past_by, past-length}
use Rattle.means.proofs.Past.{specimens-past}
use Rattle.products.specs.declared.grades.Side.{Side}
use Rattle.products.specs.Covers.{floor_at, derived_set, improvement_of, cover_by, cover_of}
use Rattle.products.specs.Grades.{graded, grades_of}
use Rattle.std.specs.Prelude.{Result, Ok, Err}
use Rattle.quantity.specs.declared.refusals.Refusal.{Refusal}
use Rattle.rating.specs.declared.sheets.Sheet.{Sheet}

derived-at : (s : BandSet) (i : ℕ) → i < 16 → band_of (derived_set s) i ≡ floor_at i -ℤ band_of s i
unfolding derived_set
derived-at s i h = ap (λ (t : Tenths). t.0) (listed_at nought (λ j. tenths (floor_at j -ℤ band_of s j)) 16 i h)

module _ (s t : BandSet) (len : s.len ≡ t.len) (values : (i : ℕ) → i < 16 → band_of s i ≡ band_of t i)
    (marks : (i : ℕ) → i < 16 → bit s.marks i ≡ bit t.marks i) where
  rated-same : rated_of I3 (derived_set s) ≡ rated_of I3 (derived_set t)
  unfolding derived_set
  rated-same = past-length I3 (derived_set s) (derived_set t) (record {
    len = refl;
    values = λ i h. derived-at s i h ∙ ap (λ (z : ℤ). floor_at i -ℤ z) (values i h) ∙ sym (derived-at t i h);
    marks = marks;
  })

  by-same : (r : Result Sheet Refusal) → cover_by s r ≡ cover_by t r
  by-same (Ok sheet) = ap (λ (m : Bool). Ok (improvement_of sheet m)) (limited-same s t 16 marks)
  by-same (Err r) = refl

  cover-agreed : cover_of s ≡ cover_of t
  unfolding cover_of
  cover-agreed =
      let c : cover_by s (rated_of I3 (derived_set s)) ≡ cover_by t (rated_of I3 (derived_set t)) = ap (cover_by s) rated-same ∙ by-same (rated_of I3 (derived_set t)) in
      rw (accepted-same s t 16 values, c, len)

cover-other : (s : BandSet) → (s.len ≡ 16 → ⊥) → cover_of s ≡ Err BandCount
unfolding cover_of
cover-other s f = rw (ne_eqb s.len 16 f)

pub cover-past : (s t : BandSet) → Stated s t → cover_of s ≡ cover_of t
cover-past = past_by cover_of 16 (Err BandCount) cover-other cover-agreed

pub grade-past : (a b : List Reading) (len : ℕ) (side : Side) → Alike a b len → grades_of a len side ≡ grades_of b len side
unfolding grades_of
grade-past a b len side h = ap (graded side) (specimens-past a b len h)
