-- H, G and B exist at every j, found by search: so u, v and c are the numbers of j that the paper names, of all j, by H, G
-- and B themselves. Assumes nothing.
use mathlib.Core.Path.{◌≡◌, sym, ◌∙◌, ap}
use mathlib.Core.Bool.{Bool}
use Prim.Native.Nat.{ℕ, zero, suc, ◌+◌, ◌*◌, ◌-◌, ◌^◌, ◌≤◌, ◌<◌}
use native.Mathlib.Nat.{pow-le-pow_left, pow-suc, mul-le-mul, le_trans, le_of_eq, lt_of_le_of_lt, lt_of_not-le, not-le_of_lt, one-le-pow, mul_comm}
use native.Mathlib.Decide.{dec_le}
use native.Mathlib.Omega.{arith}
use lib.Dec.{T, leb, ltb, ltb→lt, lt→ltb, lit<, lit≤}
use lib.Pow.{pow-add}
use Rattle.laws.specs.Extremes.{Greatest, Least, Number, greatest}
use Rattle.laws.proofs.Extremes.{Down, found}
use Rattle.energy.specs.Energies.{F, AtLeast, u}
use Rattle.energy.specs.Means.{MeanRule, v}
use Rattle.energy.specs.Corrections.{BackgroundRule, c}
use Rattle.energy.proofs.Powers.{ten-pos, grow}
use Rattle.energy.proofs.Weights.{weight, most-within}
use Rattle.energy.proofs.Thresholds.{u-number}
use Rattle.energy.proofs.Threes.{whole, v-number}
use Rattle.energy.proofs.Amounts.{c-number}

-- ---- G and B
unfoldable pub G : ℕ → ℕ
G j = greatest 32 (λ n. leb (weight n j) whole)

pub G-greatest : (j : ℕ) → Greatest (MeanRule j) (G j)
unfolding G MeanRule
G-greatest j = most-within 32 whole (lit< tt) j

unfoldable pub B : ℕ → ℕ
B j = greatest 30 (λ n. leb (weight n j) (10 ^ 1800))

pub B-greatest : (j : ℕ) → Greatest (BackgroundRule j) (B j)
unfolding B BackgroundRule
B-greatest j = most-within 30 (10 ^ 1800) (lit< tt) j

-- ---- H: one more than the greatest n whose power stays below 10 ^ e
unfoldable pub short : ℕ → ℕ → Bool
short e n = ltb (n ^ 200) (10 ^ e)

unfoldable pub H : ℕ → ℕ
H j = suc (greatest (4 * (1799 + 2 * j)) (short (1799 + 2 * j)))

down-h : (e : ℕ) → Down (short e)
unfolding short
down-h e m n h t = lt→ltb (m ^ 200) (10 ^ e) (lt_of_le_of_lt (pow-le-pow_left h 200) (ltb→lt (n ^ 200) (10 ^ e) t))

-- 10 is below 2 ^ 4
tens : (e : ℕ) → 10 ^ e ≤ 2 ^ (4 * e)
tens zero = lit≤ tt
tens (suc e) =
    le_trans (le_of_eq (pow-suc 10 e))
    (le_trans (mul-le-mul (tens e) (lit≤ {m = 10} {n = 2 ^ 4} tt))
    (le_of_eq (sym (pow-add 2 (4 * e) 4) ∙ ap (λ (n : ℕ). 2 ^ n) (four e))))
  where
    four : (e : ℕ) → 4 * e + 4 ≡ 4 * suc e
    four e = omega arith

top-h : (e : ℕ) → T (short e (2 ^ (4 * e))) → ⊥
unfolding short
top-h e t =
    let n : ℕ = 2 ^ (4 * e) in
    not-le_of_lt (ltb→lt (n ^ 200) (10 ^ e) t)
    (le_trans (tens e)
    (le_trans (grow n (one-le-pow 199 n (one-le-pow (4 * e) 2 (omega arith)))) (le_of_eq (mul_comm n (n ^ 199) ∙ sym (pow-suc n 199)))))

pub H-least : (j : ℕ) → Least (AtLeast j) (H j)
unfolding H AtLeast short
H-least j = record {
  holds = reach (dec_le (10 ^ e) (suc n ^ 200));
  best = λ m h. past m h (dec_le (suc n) m);
}
  where
    e : ℕ
    e = 1799 + 2 * j

    n : ℕ
    n = greatest (4 * e) (short e)

    g : Greatest (λ m. T (short e m)) n
    g = found (4 * e) (short e) (down-h e) (lt→ltb (0 ^ 200) (10 ^ e) (ten-pos e)) (top-h e)

    reach : Dec (10 ^ e ≤ suc n ^ 200) → 10 ^ e ≤ suc n ^ 200
    reach (yes h) = h
    reach (no h) = absurd (not-le_of_lt (g.best (suc n) (lt→ltb (suc n ^ 200) (10 ^ e) (lt_of_not-le h))) (omega arith))

    past : (m : ℕ) → 10 ^ e ≤ m ^ 200 → Dec (suc n ≤ m) → suc n ≤ m
    past m h (yes p) = p
    past m h (no p) =
        absurd (not-le_of_lt (ltb→lt (n ^ 200) (10 ^ e) g.holds) (le_trans h (pow-le-pow_left (omega arith) 200)))

-- ---- the numbers by H, G and B themselves
-- "u the number of j >= 1 with H(j) <= S"
pub u-by-H : (S : ℕ) → 1000000000 ≤ S → S ≤ 16000000000 → Number (λ j. leb (H j) S) (u S)
u-by-H = u-number H H-least

-- "v the number of j >= 1 with S <= G(j)"
pub v-by-G : (S : ℕ) → 1000000000 ≤ S → S ≤ 3000000000 → Number (λ j. leb S (G j)) (v S)
v-by-G = v-number G G-greatest

-- "c(d), for d from 60 to 149, is the number of j >= 1 with 10^9 - F(d) <= B(j)"
pub c-by-B : (d : ℕ) → 60 ≤ d → d < 150 → Number (λ j. leb (10 ^ 9 - F d) (B j)) (c d)
c-by-B = c-number B B-greatest
