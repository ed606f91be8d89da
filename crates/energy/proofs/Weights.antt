-- The weight n^200 x 10^(2j-1), the left side of the rules of G and of B, against any bound W: it grows with n and with j, the
-- greatest n within W exists, and what counts by those n is what weighs at most W. Assumes nothing.
use mathlib.Core.Path.{sym, subst}
use Prim.Native.Nat.{ℕ, ◌*◌, ◌-◌, ◌^◌, ◌≤◌, ◌<◌}
use native.Mathlib.Nat.{pow-le-pow_left, mul-le-mul_left, mul-le-mul_right, le_trans, lt_of_lt_of_le, not-le_of_lt, zero-mul}
use native.Mathlib.Omega.{arith}
use lib.Dec.{T, leb, leb→le, le→leb}
use Rattle.laws.specs.Extremes.{Greatest, Number, greatest}
use Rattle.laws.proofs.Extremes.{Down, found, number_of}
use Rattle.energy.proofs.Powers.{ten-up, ten-pos, grow, pass-down}

abbrev pub weight : ℕ → ℕ → ℕ
weight n j = n ^ 200 * 10 ^ (2 * j - 1)

pub up-sum : (m n j : ℕ) → m ≤ n → weight m j ≤ weight n j
up-sum m n j h = mul-le-mul_right (10 ^ (2 * j - 1)) (pow-le-pow_left h 200)

pub up-place : (n i j : ℕ) → i ≤ j → weight n i ≤ weight n j
up-place n i j h = mul-le-mul_left (n ^ 200) (ten-up (omega arith))

pub down-place : (W n : ℕ) → Down (λ j. leb (weight n j) W)
down-place W n i j h t = pass-down (weight n i) (weight n j) W (up-place n i j h) t

-- the greatest n of weight at most W, where no n of so many bits can be wanted
pub most-within : (bits W : ℕ) → W < (2 ^ bits) ^ 200 → (j : ℕ)
    → Greatest (λ n. weight n j ≤ W) (greatest bits (λ n. leb (weight n j) W))
most-within bits W h j = record {
  holds = leb→le (weight (greatest bits (λ n. leb (weight n j) W)) j) W g.holds;
  best = λ n p. g.best n (le→leb (weight n j) W p);
}
  where
    nothing : T (leb (weight 0 j) W)
    nothing = le→leb (weight 0 j) W (subst (λ (x : ℕ). x ≤ W) (sym (zero-mul (10 ^ (2 * j - 1)))) (omega arith))

    top : T (leb (weight (2 ^ bits) j) W) → ⊥
    top t = not-le_of_lt (lt_of_lt_of_le h (grow ((2 ^ bits) ^ 200) (ten-pos (2 * j - 1)))) (leb→le (weight (2 ^ bits) j) W t)

    g : Greatest (λ n. T (leb (weight n j) W)) (greatest bits (λ n. leb (weight n j) W))
    g = found bits (λ n. leb (weight n j) W) (λ m n p t. pass-down (weight m j) (weight n j) W (up-sum m n j p) t) nothing top

-- with G(j) the greatest n of weight at most W, the last j at which n weighs at most W is the number of j >= 1 with n <= G(j)
pub number-within : (W : ℕ) (G : ℕ → ℕ) → ((j : ℕ) → Greatest (λ n. weight n j ≤ W) (G j)) → (n : ℕ) {r : ℕ}
    → Greatest (λ j. T (leb (weight n j) W)) r → Number (λ j. leb n (G j)) r
number-within W G is-G n {r} g =
    number_of (λ j. leb n (G j)) (λ i j h t. to i (down-place W n i j h (from j t)))
    (record { holds = to r g.holds; best = λ j t. g.best j (from j t) })
  where
    to : (j : ℕ) → T (leb (weight n j) W) → T (leb n (G j))
    to j t = le→leb n (G j) ((is-G j).best n (leb→le (weight n j) W t))

    from : (j : ℕ) → T (leb n (G j)) → T (leb (weight n j) W)
    from j t = le→leb (weight n j) W (le_trans (up-sum n (G j) j (leb→le n (G j) t)) (is-G j).holds)
