-- The search's answer is the defined one: the shifts are the defined distance, and the accepted position is the greatest
-- (for impact the least) over all of ℤ. One proof over the kind. Assumes nothing.
use mathlib.Core.Path.{◌≡◌, refl, sym, ◌∙◌, ap, ap₂, subst}
use mathlib.Core.Bool.{Bool, true, false}
use Prim.Native.Nat.{ℕ, ◌+◌, ◌*◌, ◌-◌, ◌≤◌, ◌<◌}
use native.Mathlib.Nat.{lt_of_le_of_lt, not-le_of_lt}
use native.Mathlib.Decide.{dec_le}
use native.Mathlib.Omega.{arith}
use lib.Dec.{T, leb, leb→le, le→leb}
use borrow.Author.Tests.{le-leb, lt-leb}
use lib.IntN.{ℤ, pos, negsuc, ◌+ℤ◌, ◌-ℤ◌}
use Rattle.laws.specs.Parts.{P, N}
use Rattle.laws.specs.Sums.{sum_to, sumℤ}
use Rattle.laws.proofs.Ints.{ints, plus, minus, le-made, eq-made}
use Rattle.laws.proofs.Lists.{listed_at}
use Rattle.laws.proofs.Sums.{sum_same, sum-plus, sumℤ-parts}
use Rattle.quantity.specs.Quantities.{band_of}
use Rattle.quantity.specs.declared.quantities.BandSet.{BandSet}
use Rattle.curve.specs.Bands.{accepted}
use Rattle.curve.specs.Levels.{at, level_at, start_at, total_at, Settled}
use Rattle.curve.proofs.Counted.{PartsOf, counted, level-parts}
use Rattle.curve.proofs.Searched.{band-in, count_most, count-some, sum-small, start_small, over-past}
use Rattle.kinds.specs.declared.kinds.Kind.{Kind}
use Rattle.kinds.specs.declared.kinds.Kind.TheVariants.{A3, A1, I3, I1}
use Rattle.kinds.specs.Kinds.{airborne, bands_of, limit_of, reference_of}
use Rattle.kinds.specs.Numbers.{entry_by, entries_of, start_add, rating_at}
use Rattle.kinds.proofs.Facts.{count-of, entries_fit, add_small, tuned-of, limit-below}
use Rattle.rating.specs.Curve.{deficit_by, deficit, total, within, stricter_by, IsPosition, start_of, shifted_by, shifted, shifts_of, position_of, taken_off, rating_of}
use Rattle.rating.specs.Found.{rating_by}
use Rattle.rating.proofs.Bridge.{position_by, EntryOf, entry-parts, deficit-level, SumOf, start_is, shifted-is, first-is}

-- the sum of levels and the sum of values, from band to band
sum_of : (sign : Bool) (x : ℕ → ℤ) (e f : ℕ → ℕ) (n : ℕ) → ((i : ℕ) → i < n → PartsOf sign (x i) (e i) (f i))
    → SumOf sign (sumℤ x n) (sum_to e n) (sum_to f n)
sum_of true x e f n h =
    let a = sum_same (λ i. f i + N (x i)) (λ i. e i + P (x i)) n h in
    omega (arith, a, sum-plus f (λ i. N (x i)) n, sum-plus e (λ i. P (x i)) n, sumℤ-parts x n)
sum_of false x e f n h =
    let a = sum_same (λ i. f i + P (x i)) (λ i. e i + N (x i)) n h in
    omega (arith, a, sum-plus f (λ i. P (x i)) n, sum-plus e (λ i. N (x i)) n, sumℤ-parts x n)

-- every position of ℤ is that of a natural, or less strict than all of those
data Placed (sign : Bool) (q : ℤ) : Type 0 where
  here : (p : ℕ) → q ≡ position_by sign p → Placed sign q
  loose : ((p : ℕ) → stricter_by sign (position_by sign p) q) → Placed sign q

placed-up : (q z : ℤ) → z ≡ q +ℤ pos 24 → Placed true q
placed-up q (pos p) e = here p (eq-made (omega (ints, plus q (pos 24), minus (pos p) (pos 24), e)))
placed-up q (negsuc n) e = loose (λ p. le-made (omega (ints, plus q (pos 24), minus (pos p) (pos 24), e)))

placed-down : (q z : ℤ) → z ≡ pos 168 -ℤ q → Placed false q
placed-down q (pos p) e = here p (eq-made (omega (ints, minus (pos 168) q, minus (pos 168) (pos p), e)))
placed-down q (negsuc n) e = loose (λ p. le-made (omega (ints, minus (pos 168) q, minus (pos 168) (pos p), e)))

placed : (sign : Bool) (q : ℤ) → Placed sign q
placed true q = placed-up q (q +ℤ pos 24) refl
placed false q = placed-down q (pos 168 -ℤ q) refl

stricter-by : (sign : Bool) (p q : ℕ) → q ≤ p → stricter_by sign (position_by sign p) (position_by sign q)
stricter-by true p q h = le-made (omega (arith, minus (pos p) (pos 24), minus (pos q) (pos 24)))
stricter-by false p q h = le-made (omega (arith, minus (pos 168) (pos p), minus (pos 168) (pos q)))

rating-by : (k : Kind) (p : ℕ) → position_by (airborne k) p -ℤ taken_off k ≡ rating_by (airborne k) (rating_at k) p
rating-by A3 p = eq-made (omega (arith, minus (pos p -ℤ pos 24) (pos 0)))
rating-by A1 p = eq-made (omega (arith, minus (pos p -ℤ pos 24) (pos 0)))
rating-by I3 p = eq-made (omega (arith, minus (pos 168 -ℤ pos p) (pos 0)))
rating-by I1 p = eq-made (omega (arith, minus (pos 168 -ℤ pos p) (pos 5), minus (pos 168) (pos p), minus (pos 163) (pos p)))

module _ (k : Kind) (s : BandSet) (acc : accepted s (bands_of k) ≡ true) where
  abbrev n : ℕ
  n = bands_of k

  abbrev f : ℕ → ℕ
  f = level_at (airborne k) s (entries_of k)

  abbrev start : ℕ
  start = start_at f n (start_add k)

  most : n ≤ 16
  most = count_most (count-of k)

  entry-is : (i : ℕ) → i < n → at (entries_of k) i ≡ entry_by (airborne k) (reference_of k i)
  unfolding entries_of
  entry-is i h = listed_at 0 (λ j. entry_by (airborne k) (reference_of k j)) 16 i (omega (arith, most))

  parts : (i : ℕ) → i < n → PartsOf (airborne k) (band_of s i) (at (entries_of k) i) (f i)
  parts i h = level-parts (airborne k) (band_of s i) (at (entries_of k) i)
      (counted (airborne k) (band_of s i) (at (entries_of k) i) (band-in s n acc i h) (entries_fit k i (omega (arith, most))))

  entry_of : (i : ℕ) → i < n → EntryOf (airborne k) (reference_of k i) (at (entries_of k) i)
  entry_of i h =
      let e : at (entries_of k) i ≡ entry_by (airborne k) (reference_of k i) = entry-is i h in
      subst (EntryOf (airborne k) (reference_of k i)) (sym e)
      (entry-parts (airborne k) (reference_of k i) (omega (arith, (entries_fit k i (omega (arith, most))).low)))

  -- the totals agree
  pub total-is : (p : ℕ) → total k (band_of s) (position_by (airborne k) p) ≡ total_at f n p
  unfolding total total_at deficit
  total-is p =
      sum_same (λ i. deficit_by (airborne k) (position_by (airborne k) p) (reference_of k i) (band_of s i)) (λ i. 10 * p - f i) n
      (λ i h. deficit-level (airborne k) (reference_of k i) (band_of s i) p (at (entries_of k) i) (f i) (entry_of i h) (parts i h))

  -- the starts agree
  pub start-of : start_of k (band_of s) ≡ position_by (airborne k) start
  unfolding start_of
  start-of =
      start_is (airborne k) (sumℤ (band_of s) n) (sum_to (at (entries_of k)) n) (start_add k) (10 * n) (sum_to f n)
      (omega (arith, count-some (count-of k))) (tuned-of k) (sum_of (airborne k) (band_of s) (at (entries_of k)) f n parts)

  pub start-below : start < 500
  start-below = start_small n (sum_to f n) (start_add k) (count-of k) (sum-small (airborne k) s (entries_of k) n most acc (entries_fit k)) (add_small k)

  module _ (p shifts : ℕ) (w : Settled f n (limit_of k) start p shifts) where
    within-at : (q : ℕ) → within k (band_of s) (position_by (airborne k) q) ≡ leb (total_at f n q) (limit_of k)
    unfolding within
    within-at q = ap (λ (t : ℕ). leb t (limit_of k)) (total-is q)

    at-shift : (j : ℕ) → j ≤ start → within k (band_of s) (shifted k (start_of k (band_of s)) j) ≡ leb (total_at f n (start - j)) (limit_of k)
    unfolding shifted
    at-shift j h = ap (λ (z : ℤ). within k (band_of s) (shifted_by (airborne k) z j)) start-of
        ∙ ap (within k (band_of s)) (shifted-is (airborne k) start j h) ∙ within-at (start - j)

    -- the count of shifts is the true distance
    pub shifts-is : shifts_of k (band_of s) ≡ shifts
    unfolding shifts_of
    shifts-is = first-is (λ j. within k (band_of s) (shifted k (start_of k (band_of s)) j)) 500 shifts
        (omega (arith, start-below, w.distance))
        (λ j h. at-shift j (omega (arith, w.distance)) ∙ lt-leb (total_at f n (start - j)) (limit_of k) (w.over j h))
        (let e : start - shifts ≡ p = omega (arith, w.distance) in
        at-shift shifts (omega (arith, w.distance)) ∙ ap (λ (q : ℕ). leb (total_at f n q) (limit_of k)) e ∙ le-leb (total_at f n p) (limit_of k) w.fits)

    pub position-is : position_of k (band_of s) ≡ position_by (airborne k) p
    unfolding position_of shifted
    position-is =
        let e : start - shifts ≡ p = omega (arith, w.distance) in
        ap₂ (λ (z : ℤ) (j : ℕ). shifted_by (airborne k) z j) start-of shifts-is
        ∙ shifted-is (airborne k) start shifts (omega (arith, w.distance)) ∙ ap (position_by (airborne k)) e

    pub rating-is : rating_of k (band_of s) ≡ rating_by (airborne k) (rating_at k) p
    unfolding rating_of
    rating-is = ap (λ (z : ℤ). z -ℤ taken_off k) position-is ∙ rating-by k p

    -- no natural position above p is within the limit
    none_above : (q : ℕ) → T (leb (total_at f n q) (limit_of k)) → q ≤ p
    none_above q t = go (dec_le q p) (dec_le q start)
      where
        h : total_at f n q ≤ limit_of k
        h = leb→le (total_at f n q) (limit_of k) t

        go : Dec (q ≤ p) → Dec (q ≤ start) → q ≤ p
        go (yes a) b = a
        go (no a) (yes b) =
            let e : start - (start - q) ≡ q = omega arith in
            absurd (not-le_of_lt (subst (λ (m : ℕ). limit_of k < total_at f n m) e (w.over (start - q) (omega (arith, w.distance)))) h)
        go (no a) (no b) =
            absurd (not-le_of_lt (lt_of_le_of_lt (limit-below k) (over-past f n (start_add k) q (count-some (count-of k)) (omega arith))) h)

    -- the accepted position is the greatest, for impact the least, over all of ℤ
    pub is-position : IsPosition k (band_of s) (position_of k (band_of s))
    is-position = subst (IsPosition k (band_of s)) (sym position-is) (record {
      holds = subst T (sym (within-at p)) (le→leb (total_at f n p) (limit_of k) w.fits);
      best = λ q t. go q t (placed (airborne k) q);
    })
      where
        go : (q : ℤ) → T (within k (band_of s) q) → Placed (airborne k) q → stricter_by (airborne k) (position_by (airborne k) p) q
        go q t (here m e) = subst (stricter_by (airborne k) (position_by (airborne k) p)) (sym e)
            (stricter-by (airborne k) p m
            (none_above m (subst T (ap (within k (band_of s)) e ∙ within-at m) t)))
        go q t (loose g) = g p
