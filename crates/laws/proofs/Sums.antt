-- Four laws of sums by index: the same terms, greater terms, each term within, and how they pass to integers. Assumes nothing.
use mathlib.Core.Path.{◌≡◌, refl, ap, ap₂}
use Prim.Native.Nat.{ℕ, zero, suc, ◌+◌, ◌*◌, ◌≤◌, ◌<◌}
use native.Mathlib.Nat.{le_refl}
use native.Mathlib.Numerals.{add-one}
use native.Mathlib.Decide.{dec_lt}
use native.Mathlib.Omega.{arith}
use lib.IntN.{ℤ, ◌+ℤ◌}
use Rattle.laws.specs.Parts.{P, N}
use Rattle.laws.specs.Sums.{sum_to, sumℤ}
use Rattle.laws.proofs.Ints.{plus}

pub sum-none : (f : ℕ → ℕ) → sum_to f 0 ≡ 0
unfolding sum_to
sum-none f = refl

pub sum_more : (f : ℕ → ℕ) (n : ℕ) → sum_to f (n + 1) ≡ sum_to f n + f n
unfolding sum_to
sum_more f n = ap (sum_to f) (add-one n)

pub sum_same : (f g : ℕ → ℕ) (n : ℕ) → ((i : ℕ) → i < n → f i ≡ g i) → sum_to f n ≡ sum_to g n
unfolding sum_to
sum_same f g zero h = refl
sum_same f g (suc n) h = ap₂ ◌+◌ (sum_same f g n (λ i p. h i (omega arith))) (h n (le_refl (suc n)))

pub sum_mono : (f g : ℕ → ℕ) (n : ℕ) → ((i : ℕ) → i < n → f i ≤ g i) → sum_to f n ≤ sum_to g n
unfolding sum_to
sum_mono f g zero h = omega arith
sum_mono f g (suc n) h = omega (arith, sum_mono f g n (λ i p. h i (omega arith)), h n (le_refl (suc n)))

-- a term is within its sum
pub sum-term : (f : ℕ → ℕ) (n i : ℕ) → i < n → f i ≤ sum_to f n
unfolding sum_to
sum-term f zero i h = absurd (omega arith)
sum-term f (suc n) i h = go (λ p. sum-term f n i p) (dec_lt i n)
  where
    go : (i < n → f i ≤ sum_to f n) → Dec (i < n) → f i ≤ sum_to f n + f n
    go before (yes p) = omega (arith, before p)
    go before (no p) = let e : i ≡ n = omega arith in omega (arith, ap f e)

-- each term at most b: the sum at most b for each
pub sum_bound : (f : ℕ → ℕ) (b n : ℕ) → ((i : ℕ) → i < n → f i ≤ b) → sum_to f n ≤ n * b
unfolding sum_to
sum_bound f b zero h = omega arith
sum_bound f b (suc n) h = omega (arith, sum_bound f b n (λ i p. h i (omega arith)), h n (le_refl (suc n)))

-- two sums side by side
pub sum-plus : (f g : ℕ → ℕ) (n : ℕ) → sum_to (λ i. f i + g i) n ≡ sum_to f n + sum_to g n
unfolding sum_to
sum-plus f g zero = refl
sum-plus f g (suc n) = omega (arith, sum-plus f g n)

pub sum-const : (b n : ℕ) → sum_to (λ i. b) n ≡ n * b
unfolding sum_to
sum-const b zero = omega arith
sum-const b (suc n) = omega (arith, sum-const b n)

pub sum_zeros : (n : ℕ) → sum_to (λ i. 0) n ≡ 0
unfolding sum_to
sum_zeros zero = refl
sum_zeros (suc n) = omega (arith, sum_zeros n)

-- the integers' sum, by its parts
pub sumℤ-parts : (f : ℕ → ℤ) (n : ℕ) → P (sumℤ f n) + sum_to (λ i. N (f i)) n ≡ N (sumℤ f n) + sum_to (λ i. P (f i)) n
unfolding sum_to sumℤ
sumℤ-parts f zero = refl
sumℤ-parts f (suc n) = omega (arith, sumℤ-parts f n, plus (sumℤ f n) (f n))

pub sumℤ-same : (f g : ℕ → ℤ) (n : ℕ) → ((i : ℕ) → i < n → f i ≡ g i) → sumℤ f n ≡ sumℤ g n
unfolding sumℤ
sumℤ-same f g zero h = refl
sumℤ-same f g (suc n) h = ap₂ ◌+ℤ◌ (sumℤ-same f g n (λ i p. h i (omega arith))) (h n (le_refl (suc n)))
