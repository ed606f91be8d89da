-- Walks over the bands: totals of deficits, the least level, sums of energies, levels stored one after the other, and the search.
-- Assumes nothing.
use mathlib.Core.Path.{◌≡◌, sym, ◌∙◌, ap, ap₂, subst}
use mathlib.Core.List.{List}
use Prim.Native.Nat.{ℕ, zero, suc, ◌+◌, ◌*◌, ◌-◌, ◌≤◌, ◌<◌, min}
use native.Mathlib.Nat.{le_refl, lt_irrefl}
use native.Mathlib.Decide.{dec_lt}
use native.Mathlib.Omega.{arith}
use lib.ListN.{length, get_or, set}
use lib.Seq.{get_or-set_same, get_or-set_other}
use Rattle.laws.proofs.Sums.{sum-none, sum_more, sum_bound}
use Rattle.energy.specs.Energies.{F}
use Rattle.energy.proofs.Scaled.{F-most}
use Rattle.curve.specs.Levels.{total_at, min_to, energies_of}

-- ---- totals of deficits
pub total-none : (f : ℕ → ℕ) (p : ℕ) → 0 ≡ total_at f 0 p
unfolding total_at
total-none f p = sym (sum-none (λ i. 10 * p - f i))

pub total-more : (f : ℕ → ℕ) (n p t d : ℕ) → t ≡ total_at f n p → d ≡ 10 * p - f n → t + d ≡ total_at f (n + 1) p
unfolding total_at
total-more f n p t d a b = ap₂ ◌+◌ a b ∙ sym (sum_more (λ i. 10 * p - f i) n)

pub total-most : (f : ℕ → ℕ) (n p : ℕ) → p < 1000 → total_at f n p ≤ n * 9990
unfolding total_at
total-most f n p h = sum_bound (λ i. 10 * p - f i) 9990 n (λ i q. omega arith)

-- at position 0 nothing is missing
pub total-zero : (f : ℕ → ℕ) (n : ℕ) → total_at f n 0 ≡ 0
unfolding total_at
total-zero f n = let h : total_at f n 0 ≤ n * 0 = sum_bound (λ i. 10 * 0 - f i) 0 n (λ i q. omega arith) in omega arith

-- ---- the least level
pub min-below : (f : ℕ → ℕ) (n i : ℕ) → i ≤ n → min_to f n ≤ f i
unfolding min_to
min-below f zero zero h = le_refl (f 0)
min-below f zero (suc i) h = absurd (omega arith)
min-below f (suc n) i h = go (λ p. min-below f n i p) (dec_lt i (suc n))
  where
    go : (i ≤ n → min_to f n ≤ f i) → Dec (i < suc n) → min (min_to f n) (f (suc n)) ≤ f i
    go before (yes p) = omega (arith, before (omega arith))
    go before (no p) = let e : i ≡ suc n = omega arith in omega (arith, ap f e)

-- ---- sums of energies
pub energies-most : (f : ℕ → ℕ) (n m : ℕ) → energies_of f n m ≤ n * 1000000000
unfolding energies_of
energies-most f n m = sum_bound (λ i. F (f i - m)) 1000000000 n (λ i q. F-most (f i - m))

-- ---- levels, one band after the other
pub put-more : (out : List ℕ) (i v : ℕ) (f : ℕ → ℕ) → i < length out → ((j : ℕ) → j < i → get_or out j 0 ≡ f j) → v ≡ f i
    → (j : ℕ) → j < i + 1 → get_or (set out i v) j 0 ≡ f j
put-more out i v f h before e j k = go (dec_lt j i)
  where
    go : Dec (j < i) → get_or (set out i v) j 0 ≡ f j
    go (yes p) = get_or-set_other out i j v 0 (λ q. lt_irrefl i (subst (λ (n : ℕ). n < i) q p)) ∙ before j p
    go (no p) = let q : i ≡ j = omega arith in
        subst (λ (n : ℕ). get_or (set out i v) n 0 ≡ f n) q (get_or-set_same out i v 0 h ∙ e)

-- ---- the search: one more position was over the limit
pub next-over : (f : ℕ → ℕ) (n limit start p shifts t : ℕ) → p + shifts ≡ start → t ≡ total_at f n p → limit < t
    → ((s : ℕ) → s < shifts → limit < total_at f n (start - s))
    → (s : ℕ) → s < shifts + 1 → limit < total_at f n (start - s)
next-over f n limit start p shifts t d e h before s k = go (dec_lt s shifts)
  where
    go : Dec (s < shifts) → limit < total_at f n (start - s)
    go (yes q) = before s q
    go (no q) = let w : p ≡ start - s = omega arith in
        subst (λ (m : ℕ). limit < total_at f n m) w (subst (λ (m : ℕ). limit < m) e h)

-- over the limit there is a position below
pub above_zero : (f : ℕ → ℕ) (n limit p t : ℕ) → t ≡ total_at f n p → limit < t → 1 ≤ p
above_zero f n limit zero t e h = absurd (omega (arith, total-zero f n))
above_zero f n limit (suc p) t e h = omega arith
