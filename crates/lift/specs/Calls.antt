-- The lift call: its answer, and the lent buffer afterwards. Document 01, "The lift list" and "Refusal numbers" (first those of
-- the rating, "then 9, 8, 10").
use Rattle.std.specs.Prelude.{Bool, ◌&&◌, List, [], ◌∷◌, ◌≡◌, ℕ, leb, ℤ, pos, negsuc, length, Result, Ok, Err}
use Rattle.std.specs.Int.Signed.{le_z}
use Rattle.laws.specs.Lists.{front}
use Rattle.quantity.specs.Quantities.{band_of}
use Rattle.quantity.specs.Refusals.{number_of}
use Rattle.quantity.specs.Answers.{Answer}
use Rattle.quantity.specs.Answers.Answer.{refused, numbers}
use Rattle.quantity.specs.declared.quantities.BandSet.{BandSet}
use Rattle.quantity.specs.declared.refusals.Refusal.{Refusal}
use Rattle.quantity.specs.declared.refusals.Refusal.TheVariants.{TargetNotBetter, TargetRange, OutputTooSmall}
use Rattle.kinds.specs.declared.kinds.Kind.{Kind}
use Rattle.kinds.specs.declared.kinds.Kind.TheVariants.{A3, A1, I3, I1}
use Rattle.kinds.specs.Kinds.{airborne}
use Rattle.rating.specs.declared.sheets.Sheet.{Sheet}
use Rattle.rating.specs.Sheets.{asked, rated_of}
use Rattle.lift.specs.Reach.{better_by, lift_list}

-- "target outside -100..200"
unfoldable pub in_targets : ℤ → Bool
in_targets t = le_z (negsuc 99) t && le_z t (pos 200)

-- "The buffer needs 696 places for thirds, 25 for octaves"
abbrev pub places_of : Kind → ℕ
places_of A3 = 696
places_of A1 = 25
places_of I3 = 696
places_of I1 = 25

-- "then 9, 8, 10", of a set that rates so
unfoldable pub count_of : Kind → BandSet → ℤ → ℕ → ℤ → Result ℕ Refusal
count_of k s target room rating =
    asked (in_targets target)
    (asked (better_by (airborne k) target rating)
    (asked (leb (places_of k) room) (Ok (length (lift_list k (band_of s) target))) OutputTooSmall)
    TargetNotBetter)
    TargetRange

abbrev pub answer_by : Result Sheet Refusal → Kind → BandSet → ℤ → ℕ → Result ℕ Refusal
answer_by (Err r) k s target room = Err r
answer_by (Ok sheet) k s target room = count_of k s target room sheet.rating.0

-- the answer, with so many places lent
unfoldable pub answer_of : Kind → BandSet → ℤ → ℕ → Result ℕ Refusal
answer_of k s target room = answer_by (rated_of k s) k s target room

-- "places after the count keep their contents"; "A refusal .. changes no lent buffer"
abbrev pub buffer_by : Result ℕ Refusal → List ℕ → List ℕ → List ℕ
buffer_by (Ok n) list buffer = front list buffer
buffer_by (Err r) list buffer = buffer

-- the whole promise of the call
pub record LiftIs (k : Kind) (s : BandSet) (target : ℤ) (before : List ℕ) (r : Result ℕ Refusal) (after : List ℕ) : Type 0 where
  pub answer : r ≡ answer_of k s target (length before)
  pub buffer : after ≡ buffer_by r (lift_list k (band_of s) target) before

-- in the paper's numbers: the count, or the refusal
abbrev pub count_answer : Result ℕ Refusal → Answer ℤ
count_answer (Ok n) = numbers (pos n ∷ [])
count_answer (Err r) = refused (number_of r)
