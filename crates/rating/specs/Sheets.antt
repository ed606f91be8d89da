-- The sheet of a band set, and the rating call: a sheet, or the one refusal that is given. Document 01, "Rating", "Sums of
-- energies" (each term rounded, by document 02, request (ii)), and the order of refusals: 1, then 4.
use Rattle.std.specs.Prelude.{Bool, true, false, List, [], ◌∷◌, ℕ, eqb, ℤ, pos, Option, None, Some, Result, Ok, Err}
use Rattle.quantity.specs.Quantities.{half_even, band_of}
use Rattle.quantity.specs.Refusals.{number_of}
use Rattle.quantity.specs.Answers.{Answer, flag}
use Rattle.quantity.specs.Answers.Answer.{refused, numbers}
use Rattle.quantity.specs.declared.quantities.BandSet.{BandSet}
use Rattle.quantity.specs.declared.quantities.Decibels.{Decibels}
use Rattle.quantity.specs.declared.refusals.Refusal.{Refusal}
use Rattle.quantity.specs.declared.refusals.Refusal.TheVariants.{BandCount, BandRange}
use Rattle.curve.specs.Bands.{accepted, limited}
use Rattle.kinds.specs.declared.kinds.Kind.{Kind}
use Rattle.kinds.specs.Kinds.{airborne, bands_of, C, Ctr}
use Rattle.rating.specs.declared.sheets.Sheet.{Sheet}
use Rattle.rating.specs.Curve.{rating_of, shifts_of}
use Rattle.rating.specs.Terms.{airborne_term, impact_term}

-- a single number of the sheet
abbrev pub decibels : ℤ → Decibels
decibels z = record { 0 = z }

-- the first term: C, or the impact term; and the second: Ctr, or none. "Each term is then rounded to a whole dB"
abbrev pub first_by : Bool → Kind → (ℕ → ℤ) → ℤ
first_by true k x = half_even (airborne_term k x (C k))
first_by false k x = half_even (impact_term k x)

abbrev pub second_by : Bool → Kind → (ℕ → ℤ) → Option Decibels
second_by true k x = Some (decibels (half_even (airborne_term k x (Ctr k))))
second_by false k x = None

-- the mark: "at least for airborne, at most for impact"
unfoldable pub sheet_of : Kind → BandSet → Sheet
sheet_of k s = record {
  rating = decibels (rating_of k (band_of s));
  first = decibels (first_by (airborne k) k (band_of s));
  second = second_by (airborne k) k (band_of s);
  shifts = shifts_of k (band_of s);
  limit = limited s (bands_of k);
}

-- the second term, 0 where there is none, and whether there is one
abbrev pub term_of : Option Decibels → ℤ
term_of (Some d) = d.0
term_of None = pos 0

abbrev pub term_flag : Option Decibels → ℤ
term_flag (Some d) = pos 1
term_flag None = pos 0

-- a refusal where a test fails
abbrev pub asked : {A : Type 0} → Bool → Result A Refusal → Refusal → Result A Refusal
asked true a r = a
asked false a r = Err r

-- 1 where the length is not the kind's, then 4 where a band is out of range
unfoldable pub rated_of : Kind → BandSet → Result Sheet Refusal
rated_of k s = asked (eqb s.len (bands_of k)) (asked (accepted s (bands_of k)) (Ok (sheet_of k s)) BandRange) BandCount

-- whether a set can be rated: the same two tests
unfoldable pub accept_of : Kind → BandSet → Result Unit Refusal
accept_of k s = asked (eqb s.len (bands_of k)) (asked (accepted s (bands_of k)) (Ok tt) BandRange) BandCount

-- the rating of an answer alone
abbrev pub single_of : Result Sheet Refusal → Result Decibels Refusal
single_of (Ok s) = Ok s.rating
single_of (Err r) = Err r

-- in the paper's numbers: rating, first term, second term, whether there is one, shifts, mark; or the refusal
abbrev pub sheet_numbers : Sheet → List ℤ
sheet_numbers s = s.rating.0 ∷ s.first.0 ∷ term_of s.second ∷ term_flag s.second ∷ pos s.shifts ∷ flag s.limit ∷ []

abbrev pub rated_answer : Result Sheet Refusal → Answer ℤ
rated_answer (Ok s) = numbers (sheet_numbers s)
rated_answer (Err r) = refused (number_of r)
