-- What lies past the stated length of a band set never matters to the lift call, nor do the marks: "the lift list take[s] a limit
-- value as the number shown". Assumes nothing.
use mathlib.Core.Path.{◌≡◌, refl, sym, ◌∙◌, ap}
use mathlib.Core.Bool.{Bool, true, false, not, cond, ◌&&◌}
use mathlib.Core.List.{List}
use Prim.Native.Nat.{ℕ, ◌<◌}
use lib.Dec.{eqb, leb}
use lib.IntN.{ℤ}
use lib.ListN.{length}
use Rattle.quantity.specs.Quantities.{band_of}
use Rattle.quantity.specs.declared.quantities.BandSet.{BandSet}
use Rattle.quantity.specs.declared.refusals.Refusal.TheVariants.{BandCount, BandRange, TargetNotBetter, TargetRange, OutputTooSmall}
use Rattle.curve.specs.Bands.{accepted}
use Rattle.laws.specs.Tests.{all_to, bit}
use Rattle.kinds.specs.declared.kinds.Kind.{Kind}
use Rattle.kinds.specs.Kinds.{airborne, bands_of}
use Rattle.rating.specs.Curve.{rating_of}
use Rattle.rating.specs.Sheets.{sheet_of, rated_of, asked}
use Rattle.rating.proofs.Theorems.{accepted-same, rating-same, Stated, past_by}
use Rattle.rating.proofs.RatedLaws.{wrong-count}
use Rattle.sets.specs.Masks.{smaller, masks_in_order, filter}
use Rattle.sets.specs.Highest.{highest}
use Rattle.lift.specs.Reach.{better_by, meets_by, lifted, reaches, listed_mask, lift_list}
use Rattle.lift.specs.Calls.{in_targets, places_of, count_of, answer_by, answer_of, buffer_by}
use Rattle.std.specs.Prelude.{Result, Ok, Err}
use Rattle.quantity.specs.declared.refusals.Refusal.{Refusal}
use Rattle.rating.specs.declared.sheets.Sheet.{Sheet}

module _ (k : Kind) (x y : ℕ → ℤ) (t : ℤ) (same : (i : ℕ) → i < bands_of k → x i ≡ y i) where
  lifted-same : (m i : ℕ) → i < bands_of k → lifted k x m i ≡ lifted k y m i
  unfolding lifted
  lifted-same m i h = ap (λ (z : ℤ). cond (bit m i) (highest (airborne k)) z) (same i h)

  reaches_same : (m : ℕ) → reaches k x t m ≡ reaches k y t m
  unfolding reaches
  reaches_same m = ap (meets_by (airborne k) t) (rating-same k (lifted k x m) (lifted k y m) (lifted-same m))

  listed_same : (m : ℕ) → listed_mask k x t m ≡ listed_mask k y t m
  unfolding listed_mask
  listed_same m = λ i. reaches_same m i && all_to (λ p. not (smaller p m && reaches_same p i)) 65536

  pub list-past : lift_list k x t ≡ lift_list k y t
  unfolding lift_list
  list-past = λ i. filter (λ m. listed_same m i) (masks_in_order (bands_of k))

module _ (k : Kind) (s t : BandSet) (target : ℤ) (room : ℕ) (len : s.len ≡ t.len) (values : (i : ℕ) → i < bands_of k → band_of s i ≡ band_of t i) where
  count_same : count_of k s target room (rating_of k (band_of s)) ≡ count_of k t target room (rating_of k (band_of t))
  unfolding count_of
  count_same =
      let r = rating-same k (band_of s) (band_of t) values in
      let l = list-past k (band_of s) (band_of t) target values in
      λ i. asked (in_targets target)
      (asked (better_by (airborne k) target (r i)) (asked (leb (places_of k) room) (Ok (length (l i))) OutputTooSmall) TargetNotBetter)
      TargetRange

  abbrev answer : BandSet → Bool → Bool → Result ℕ Refusal
  answer u a b = answer_by (asked a (asked b (Ok (sheet_of k u)) BandRange) BandCount) k u target room

  answer-same : (a b : Bool) → answer s a b ≡ answer t a b
  unfolding sheet_of
  answer-same true true = count_same
  answer-same true false = refl
  answer-same false b = refl

  answer-agreed : answer_of k s target room ≡ answer_of k t target room
  unfolding answer_of rated_of
  answer-agreed =
      ap (λ (n : ℕ). answer s (eqb n (bands_of k)) (accepted s (bands_of k))) len
      ∙ ap (answer s (eqb t.len (bands_of k))) (accepted-same s t (bands_of k) values)
      ∙ answer-same (eqb t.len (bands_of k)) (accepted t (bands_of k))

-- the answer of the call, and its buffer
module _ (k : Kind) (target : ℤ) (room : ℕ) where
  other : (s : BandSet) → (s.len ≡ bands_of k → ⊥) → answer_of k s target room ≡ Err BandCount
  unfolding answer_of
  other s f = ap (λ (r : Result Sheet Refusal). answer_by r k s target room) (sym (wrong-count k s (bands_of k) refl f))

  pub answer-past : (s t : BandSet) → Stated s t → answer_of k s target room ≡ answer_of k t target room
  answer-past = past_by (λ s. answer_of k s target room) (bands_of k) (Err BandCount) other
      (λ s t len values marks. answer-agreed k s t target room len values)

  pub buffer-past : (lent : List ℕ) (s t : BandSet) → Stated s t
      → buffer_by (answer_of k s target room) (lift_list k (band_of s) target) lent ≡ buffer_by (answer_of k t target room) (lift_list k (band_of t) target) lent
  buffer-past lent = past_by (λ s. buffer_by (answer_of k s target room) (lift_list k (band_of s) target) lent) (bands_of k) lent
      (λ s f. ap (λ (r : Result ℕ Refusal). buffer_by r (lift_list k (band_of s) target) lent) (other s f))
      (λ s t len values marks i. buffer_by (answer-agreed k s t target room len values i) (list-past k (band_of s) (band_of t) target values i) lent)
