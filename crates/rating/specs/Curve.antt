-- Document 01, "Rating (000, 3.2 and 4.2)": deficits, the rating, the start of the curve method and its shifts. A band set is
-- here the function x from a band's place to its value in tenths; positions are whole decibels.
use Rattle.std.specs.Prelude.{Bool, true, false, cond, ℕ, zero, suc, ◌*◌, leb, T, ℤ, pos, neg_ℤ, ◌+ℤ◌, ◌-ℤ◌, ◌*ℤ◌, ◌≤ℤ◌}
use Rattle.std.specs.Int.Signed.{shr_z}
use Rattle.laws.specs.Parts.{P}
use Rattle.laws.specs.Sums.{sum_to, sumℤ}
use Rattle.kinds.specs.declared.kinds.Kind.{Kind}
use Rattle.kinds.specs.declared.kinds.Kind.TheVariants.{A3, A1, I3, I1}
use Rattle.kinds.specs.Kinds.{airborne, bands_of, limit_of, reference_of}

-- "Airborne at curve position X: band deficit is max(0, 10X + 10K - x)."  "Impact: deficit max(0, x - 10K - 10Y)"
abbrev pub deficit_by : Bool → ℤ → ℤ → ℤ → ℕ
deficit_by true X K x = P (pos 10 *ℤ X +ℤ pos 10 *ℤ K -ℤ x)
deficit_by false Y K x = P (x -ℤ pos 10 *ℤ K -ℤ pos 10 *ℤ Y)

unfoldable pub deficit : Kind → ℤ → ℤ → ℤ → ℕ
deficit k = deficit_by (airborne k)

-- all deficits at a position
unfoldable pub total : Kind → (ℕ → ℤ) → ℤ → ℕ
total k x p = sum_to (λ i. deficit k p (reference_of k i) (x i)) (bands_of k)

-- "whose deficits total at most the limit"
unfoldable pub within : Kind → (ℕ → ℤ) → ℤ → Bool
within k x p = leb (total k x p) (limit_of k)

-- a is at least as strict a position as b: greater for airborne, less for impact
abbrev pub stricter_by : Bool → ℤ → ℤ → Type 0
stricter_by true a b = b ≤ℤ a
stricter_by false a b = a ≤ℤ b

-- "The rating is the greatest whole X whose deficits total at most the limit."  "take the least whole Y"
pub record IsPosition (k : Kind) (x : ℕ → ℤ) (p : ℤ) : Type 0 where
  pub holds : T (within k x p)
  pub best : (q : ℤ) → T (within k x q) → stricter_by (airborne k) p q

-- z / m rounded down, and rounded up
abbrev pub floor_of : ℤ → ℕ → ℤ
floor_of z m = shr_z z m

abbrev pub ceiling_of : ℤ → ℕ → ℤ
ceiling_of z m = neg_ℤ (shr_z (neg_ℤ z) m)

-- "airborne starts at the mean of the bands in dB rounded up to a whole dB, plus 5 .. impact starts at the mean rounded down,
-- minus 5"
abbrev pub start_by : Bool → ℤ → ℕ → ℤ
start_by true sum tens = ceiling_of sum tens +ℤ pos 5
start_by false sum tens = floor_of sum tens -ℤ pos 5

unfoldable pub start_of : Kind → (ℕ → ℤ) → ℤ
start_of k x = start_by (airborne k) (sumℤ x (bands_of k)) (10 * bands_of k)

-- "and goes down by 1 dB .. and goes up"
abbrev pub shifted_by : Bool → ℤ → ℕ → ℤ
shifted_by true p s = p -ℤ pos s
shifted_by false p s = p +ℤ pos s

unfoldable pub shifted : Kind → ℤ → ℕ → ℤ
shifted k = shifted_by (airborne k)

-- the first s, from s on, that passes, within so many tries
unfoldable pub first_from : (ℕ → Bool) → ℕ → ℕ → ℕ
first_from ok zero s = s
first_from ok (suc tries) s = let next = first_from ok tries (suc s) in cond (ok s) s next

-- "The number of curve shifts is the distance from that start to the accepted position."  No accepted set takes 500
unfoldable pub shifts_of : Kind → (ℕ → ℤ) → ℕ
shifts_of k x = first_from (λ s. within k x (shifted k (start_of k x) s)) 500 0

unfoldable pub position_of : Kind → (ℕ → ℤ) → ℤ
position_of k x = shifted k (start_of k x) (shifts_of k x)

-- "I3 rates Y, I1 rates Y - 5. The 5 is taken off once"
abbrev pub taken_off : Kind → ℤ
taken_off A3 = pos 0
taken_off A1 = pos 0
taken_off I3 = pos 0
taken_off I1 = pos 5

unfoldable pub rating_of : Kind → (ℕ → ℤ) → ℤ
rating_of k x = position_of k x -ℤ taken_off k
