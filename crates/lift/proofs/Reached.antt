-- Reaching by rating is the total of deficits at the target within the limit: the rating is the best position within it, and
-- a less strict position is within it too. One proof over the kind. Assumes nothing.
use mathlib.Core.Path.{◌≡◌, sym, ◌∙◌, ap}
use mathlib.Core.Bool.{Bool, true, false, cond}
use Prim.Native.Nat.{ℕ, ◌≤◌, ◌<◌}
use native.Mathlib.Nat.{le_trans}
use native.Mathlib.Omega.{arith}
use lib.Dec.{T, leb, leb→le, le→leb}
use lib.IntN.{ℤ, pos, ◌+ℤ◌, ◌-ℤ◌, ◌*ℤ◌}
use lib.Signed.{◌≤ℤ◌}
use Rattle.laws.proofs.Ints.{plus, minus, apart, times-P, times-N, le-made, le_read}
use Rattle.laws.proofs.Sums.{sum_mono}
use Rattle.quantity.specs.Quantities.{in_range, band_of, tenths}
use Rattle.quantity.specs.declared.quantities.Tenths.{Tenths}
use Rattle.quantity.specs.declared.quantities.BandSet.{BandSet}
use Rattle.curve.specs.Bands.{accepted}
use Rattle.laws.specs.Tests.{bit}
use Rattle.laws.proofs.Ranges.{all_made}
use Rattle.curve.proofs.Searched.{band-in, count_most}
use Rattle.kinds.specs.declared.kinds.Kind.{Kind}
use Rattle.kinds.specs.Kinds.{airborne, bands_of, limit_of, reference_of}
use Rattle.kinds.proofs.Facts.{count-of}
use Rattle.rating.specs.Curve.{deficit_by, deficit, total, within, stricter_by, IsPosition, position_of, taken_off, rating_of}
use Rattle.rating.proofs.Theorems.{position-best, total-same, rating-same}
use Rattle.sets.specs.Highest.{highest}
use Rattle.sets.specs.Gains.{target_at}
use Rattle.laws.proofs.Tests.{one-test}
use Rattle.sets.proofs.Counting.{best-in}
use Rattle.lift.specs.Reach.{meets_by, lifted, reaches}
use Rattle.laws.specs.Lists.{listed}
use Rattle.laws.proofs.Lists.{listed_at}

-- ---- a less strict position has no greater deficits
-- decibels in tenths
abbrev ten : ℤ → ℤ
ten z = pos 10 *ℤ z

deficit-less : (sign : Bool) (p q K x : ℤ) → stricter_by sign p q → deficit_by sign q K x ≤ deficit_by sign p K x
deficit-less true p q K x h =
    omega (
      arith,
      le_read h,
      times-P 10 p,
      times-N 10 p,
      times-P 10 q,
      times-N 10 q,
      plus (ten p) (ten K),
      plus (ten q) (ten K),
      minus (ten p +ℤ ten K) x,
      minus (ten q +ℤ ten K) x,
      apart (ten p +ℤ ten K -ℤ x),
      apart (ten q +ℤ ten K -ℤ x),
    )
deficit-less false p q K x h =
    omega (
      arith,
      le_read h,
      times-P 10 p,
      times-N 10 p,
      times-P 10 q,
      times-N 10 q,
      minus x (ten K),
      minus (x -ℤ ten K) (ten p),
      minus (x -ℤ ten K) (ten q),
      apart (x -ℤ ten K -ℤ ten p),
      apart (x -ℤ ten K -ℤ ten q),
    )

within-less : (k : Kind) (x : ℕ → ℤ) (p q : ℤ) → stricter_by (airborne k) p q → T (within k x p) → T (within k x q)
unfolding within total deficit
within-less k x p q h t =
    le→leb (total k x q) (limit_of k)
    (le_trans
    (sum_mono (λ i. deficit k q (reference_of k i) (x i)) (λ i. deficit k p (reference_of k i) (x i)) (bands_of k)
    (λ i r. deficit-less (airborne k) p q (reference_of k i) (x i) h))
    (leb→le (total k x p) (limit_of k) t))

-- ---- a rating meets a target, and its position is at least as strict as the target's
meets-read : (sign : Bool) (target q off : ℤ) → T (meets_by sign target (q -ℤ off)) → stricter_by sign q (target +ℤ off)
meets-read true target q off t =
    let h : target ≤ℤ (q -ℤ off) = record { le = t } in le-made (omega (arith, le_read h, minus q off, plus target off))
meets-read false target q off t =
    let h : (q -ℤ off) ≤ℤ target = record { le = t } in le-made (omega (arith, le_read h, minus q off, plus target off))

meets-made : (sign : Bool) (target q off : ℤ) → stricter_by sign q (target +ℤ off) → T (meets_by sign target (q -ℤ off))
meets-made true target q off h =
    let r : target ≤ℤ (q -ℤ off) = le-made (omega (arith, le_read h, minus q off, plus target off)) in r.le
meets-made false target q off h =
    let r : (q -ℤ off) ≤ℤ target = le-made (omega (arith, le_read h, minus q off, plus target off)) in r.le

pub meets-is : (k : Kind) (s : BandSet) → accepted s (bands_of k) ≡ true → (target : ℤ)
    → meets_by (airborne k) target (rating_of k (band_of s)) ≡ within k (band_of s) (target_at k target)
unfolding rating_of
meets-is k s acc target =
    let x : ℕ → ℤ = band_of s in
    let q : ℤ = position_of k x in
    let is : IsPosition k x q = position-best k s acc in
    one-test (meets_by (airborne k) target (q -ℤ taken_off k)) (within k x (target_at k target))
    (λ t. within-less k x q (target_at k target) (meets-read (airborne k) target q (taken_off k) t) is.holds)
    (λ t. meets-made (airborne k) target q (taken_off k) (is.best (target_at k target) t))

-- ---- the band set with the bands of m lifted
module _ (k : Kind) (s : BandSet) (acc : accepted s (bands_of k) ≡ true) (m : ℕ) where
  abbrev y : ℕ → ℤ
  y = lifted k (band_of s) m

  mended : BandSet
  mended = record { values = listed (λ i. tenths (y i)) 16 0; marks = s.marks; len = s.len }

  mended-is : (i : ℕ) → i < bands_of k → band_of mended i ≡ y i
  unfolding mended
  mended-is i h = ap (λ (v : Tenths). v.0) (listed_at (tenths (pos 0)) (λ j. tenths (y j)) 16 i (omega (arith, count_most (count-of k))))

  lifted-in : (i : ℕ) → i < bands_of k → in_range (y i) ≡ true
  unfolding lifted
  lifted-in i h = go (bit m i)
    where
      go : (b : Bool) → in_range (cond b (highest (airborne k)) (band_of s i)) ≡ true
      go true = best-in (airborne k)
      go false = band-in s (bands_of k) acc i h

  mended-accepted : accepted mended (bands_of k) ≡ true
  unfolding accepted
  mended-accepted = all_made (λ i. in_range (band_of mended i)) (bands_of k) (λ i h. ap in_range (mended-is i h) ∙ lifted-in i h)

  -- reaching by rating is the total at the target within the limit
  pub reaches-is : (target : ℤ) → reaches k (band_of s) target m ≡ within k (lifted k (band_of s) m) (target_at k target)
  unfolding reaches within
  reaches-is target =
      ap (meets_by (airborne k) target) (sym (rating-same k (band_of mended) y mended-is))
      ∙ meets-is k mended mended-accepted target
      ∙ ap (λ (t : ℕ). leb t (limit_of k)) (total-same k (band_of mended) y mended-is (target_at k target))
