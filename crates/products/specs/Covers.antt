-- Document 01, "Covers and grades": a floor cover's weighted improvement and its term.
use Rattle.std.specs.Prelude.{Bool, cond, List, [], ◌∷◌, ℕ, eqb, ℤ, pos, neg_ℤ, ◌+ℤ◌, ◌-ℤ◌, get_or, Result, Ok, Err}
use Rattle.laws.specs.Lists.{listed}
use Rattle.quantity.specs.Quantities.{band_of, tenths}
use Rattle.quantity.specs.Refusals.{number_of}
use Rattle.quantity.specs.Answers.{Answer, flag}
use Rattle.quantity.specs.Answers.Answer.{refused, numbers}
use Rattle.quantity.specs.declared.quantities.BandSet.{BandSet}
use Rattle.quantity.specs.declared.refusals.Refusal.{Refusal}
use Rattle.quantity.specs.declared.refusals.Refusal.TheVariants.{BandCount, BandRange, DerivedRange}
use Rattle.curve.specs.Bands.{accepted, limited}
use Rattle.kinds.specs.declared.kinds.Kind.TheVariants.{I3}
use Rattle.kinds.specs.Kinds.{bands_of}
use Rattle.rating.specs.declared.sheets.Sheet.{Sheet}
use Rattle.rating.specs.Sheets.{rated_of, decibels}
use Rattle.products.specs.declared.covers.Cover.{Cover}

-- "reference floor 670 675 680 685 690 695 700 705 710 715, then 720 six times"
unfoldable pub floor : List ℤ
floor = pos 670 ∷ pos 675 ∷ pos 680 ∷ pos 685 ∷ pos 690 ∷ pos 695 ∷ pos 700 ∷ pos 705 ∷ pos 710 ∷ pos 715 ∷ pos 720 ∷ pos 720 ∷ pos 720 ∷ pos 720 ∷ pos 720 ∷ pos 720 ∷ []

abbrev pub floor_at : ℕ → ℤ
floor_at i = get_or floor i (pos 0)

-- "derived level = reference floor less improvement, band by band"
unfoldable pub derived_set : BandSet → BandSet
derived_set s = record {
  values = listed (λ i. tenths (floor_at i -ℤ band_of s i)) 16 0;
  marks = s.marks;
  len = bands_of I3;
}

-- "Improvement rating = 78 - derived rating; its term = -(impact term + 10), the impact term rounded first"
abbrev pub improvement_of : Sheet → Bool → Cover
improvement_of sheet mark = record {
  improvement = decibels (pos 78 -ℤ sheet.rating.0);
  term = decibels (neg_ℤ (sheet.first.0 +ℤ pos 10));
  limit = mark;
}

-- with "the mark of their bands"; a derived level out of range is 6
abbrev pub cover_by : BandSet → Result Sheet Refusal → Result Cover Refusal
cover_by s (Ok sheet) = Ok (improvement_of sheet (limited s (bands_of I3)))
cover_by s (Err r) = Err DerivedRange

-- the refusals of a band list, then "covers test 6 after all 4s"
unfoldable pub cover_of : BandSet → Result Cover Refusal
cover_of s =
    cond (eqb s.len (bands_of I3)) (cond (accepted s (bands_of I3)) (cover_by s (rated_of I3 (derived_set s))) (Err BandRange)) (Err BandCount)

-- in the paper's numbers: improvement rating, term, mark; or the refusal
abbrev pub improvement_answer : Result Cover Refusal → Answer ℤ
improvement_answer (Ok x) = numbers (x.improvement.0 ∷ x.term.0 ∷ flag x.limit ∷ [])
improvement_answer (Err r) = refused (number_of r)
