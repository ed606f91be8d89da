-- The mean of three: the table's search gives v; v is the number of j that count, of all j; a sum of three lies between one
-- energy and three. Assumes nothing.
use mathlib.Core.Path.{◌≡◌, refl, sym, ◌∙◌, ap, subst}
use mathlib.Core.Bool.{Bool}
use mathlib.Core.Logic.{◌⊎◌, inl, inr, ⊎_elim}
use Prim.Native.Nat.{ℕ, zero, suc, ◌*◌, ◌-◌, ◌^◌, ◌≤◌, ◌<◌}
use native.Mathlib.Nat.{le_trans, lt_of_lt_of_le, not-le_of_lt}
use native.Mathlib.Decide.{dec_lt, dec_le}
use native.Mathlib.Omega.{arith}
use lib.Dec.{T, leb, ltb, leb→le, le→leb, ltb→lt, lit<, lit≤}
use lib.ListN.{get_or}
use Rattle.laws.specs.Extremes.{Greatest, Number}
use Rattle.laws.proofs.Extremes.{Down, found, found-is}
use Rattle.laws.proofs.Table.{both, both_left, both_right, every, at}
use Rattle.energy.specs.Energies.{F}
use Rattle.energy.specs.Means.{v, mean_rule, MeanRule, least₃, sum₃}
use Rattle.energy.proofs.Thresholds.{Reached}
use Rattle.energy.proofs.Weights.{weight, up-sum, down-place, number-within}
use Rattle.energy.proofs.Scaled.{F-first, F-most}
use Rattle.energy.proofs.Lists.{means}

abbrev pub whole : ℕ
whole = 3 ^ 200 * 10 ^ 1800

down-v : (S : ℕ) → Down (mean_rule S)
unfolding mean_rule
down-v S = down-place whole S

top-v : (S : ℕ) → 1000000000 ≤ S → T (mean_rule S (2 ^ 6)) → ⊥
unfolding mean_rule
top-v S h t =
    not-le_of_lt (lt_of_lt_of_le (lit< {m = whole} {n = weight 1000000000 (2 ^ 6)} tt) (up-sum 1000000000 S (2 ^ 6) h))
    (leb→le (weight S (2 ^ 6)) whole t)

base-v : (S : ℕ) → S ≤ 3000000000 → T (mean_rule S 0)
unfolding mean_rule
base-v S h = le→leb (weight S 0) whole (le_trans (up-sum S 3000000000 0 h) (lit≤ {m = weight 3000000000 0} {n = whole} tt))

-- the rule at an entry: it still counts at place 48 - i, and one more does not
still : ℕ → ℕ → Bool
still i x = both (leb (weight x (48 - i)) whole) (ltb whole (weight (suc x) (48 - i)))

checked-v : T (every still 0 means)
unfolding still means
checked-v = tt

counts : (i : ℕ) → i < 48 → weight (get_or means i 0) (48 - i) ≤ whole
unfolding still means
counts i h = let x : ℕ = get_or means i 0 in
    leb→le (weight x (48 - i)) whole
    (both_left (leb (weight x (48 - i)) whole) (ltb whole (weight (suc x) (48 - i))) (at still means checked-v i h))

stops : (i : ℕ) → i < 48 → whole < weight (suc (get_or means i 0)) (48 - i)
unfolding still means
stops i h = let x : ℕ = get_or means i 0 in
    ltb→lt whole (weight (suc x) (48 - i))
    (both_right (leb (weight x (48 - i)) whole) (ltb whole (weight (suc x) (48 - i))) (at still means checked-v i h))

-- what the table's search gives, taken from 48, is v
pub step_is : (S r : ℕ) → 1000000000 ≤ S → S ≤ 3000000000 → Reached means (S - 1) r → 48 - r ≡ v S
unfolding v mean_rule means
step_is S r a b reach = found-is 6 (mean_rule S) (down-v S) (top-v S a) (48 - r) (holds (dec_lt r 48)) (ends r refl)
  where
    holds : Dec (r < 48) → T (mean_rule S (48 - r))
    holds (yes h) = le→leb (weight S (48 - r)) whole
        (le_trans (up-sum S (get_or means r 0) (48 - r) (omega (arith, reach.above h))) (counts r h))
    holds (no h) = let e : 0 ≡ 48 - r = omega arith in subst (λ (n : ℕ). T (mean_rule S n)) e (base-v S b)

    ends : (k : ℕ) → r ≡ k → T (mean_rule S (suc (48 - r))) → ⊥
    ends zero e t = let p : suc (48 - r) ≡ 49 = omega arith in
        not-le_of_lt (lt_of_lt_of_le (lit< {m = whole} {n = weight 1000000000 49} tt) (up-sum 1000000000 S 49 a))
        (leb→le (weight S 49) whole (subst (λ (n : ℕ). T (mean_rule S n)) p t))
    ends (suc i) e t = let p : suc (48 - r) ≡ 48 - i = omega (arith, reach.within) in
        let h : i < 48 = omega (arith, reach.within) in
        not-le_of_lt (lt_of_lt_of_le (stops i h) (up-sum (suc (get_or means i 0)) S (48 - i) (omega (arith, reach.below i (sym e)))))
        (leb→le (weight S (48 - i)) whole (subst (λ (n : ℕ). T (mean_rule S n)) p t))

pub v-greatest : (S : ℕ) → 1000000000 ≤ S → S ≤ 3000000000 → Greatest (λ j. T (mean_rule S j)) (v S)
unfolding v
v-greatest S a b = found 6 (mean_rule S) (down-v S) (base-v S b) (top-v S a)

-- the meaning of v: by any G that is the greatest with its rule, v(S) is the number of j >= 1 with S <= G(j), of all j
pub v-number : (G : ℕ → ℕ) → ((j : ℕ) → Greatest (MeanRule j) (G j)) → (S : ℕ) → 1000000000 ≤ S → S ≤ 3000000000
    → Number (λ j. leb S (G j)) (v S)
unfolding MeanRule mean_rule
v-number G is-G S a b = number-within whole G is-G S (v-greatest S a b)

-- nothing past 48 counts
pub v-most : (S : ℕ) → 1000000000 ≤ S → S ≤ 3000000000 → v S ≤ 48
unfolding mean_rule
v-most S a b = go (dec_le (v S) 48)
  where
    go : Dec (v S ≤ 48) → v S ≤ 48
    go (yes h) = h
    go (no h) = absurd (not-le_of_lt (lt_of_lt_of_le (lit< {m = whole} {n = weight 1000000000 49} tt) (up-sum 1000000000 S 49 a))
        (leb→le (weight S 49) whole (down-v S 49 (v S) (omega arith) (v-greatest S a b).holds)))

-- ---- three values: the least has the whole energy
one-is-least : (x y z : ℕ) → (x - least₃ x y z ≡ 0) ⊎ ((y - least₃ x y z ≡ 0) ⊎ (z - least₃ x y z ≡ 0))
one-is-least x y z = go (dec_le x y) (dec_le x z) (dec_le y z)
  where
    go : Dec (x ≤ y) → Dec (x ≤ z) → Dec (y ≤ z) → (x - least₃ x y z ≡ 0) ⊎ ((y - least₃ x y z ≡ 0) ⊎ (z - least₃ x y z ≡ 0))
    go (yes a) (yes b) c = inl (omega arith)
    go (yes a) (no b) c = inr (inr (omega arith))
    go (no a) b (yes c) = inr (inl (omega arith))
    go (no a) b (no c) = inr (inr (omega arith))

F-at-zero : (d : ℕ) → d ≡ 0 → F d ≡ 1000000000
F-at-zero d e = ap F e ∙ F-first

pub sum-bounds : (x y z : ℕ) → (1000000000 ≤ sum₃ x y z) × (sum₃ x y z ≤ 3000000000)
sum-bounds x y z =
    let m : ℕ = least₃ x y z in
    let a : F (x - m) ≤ 1000000000 = F-most (x - m) in
    let b : F (y - m) ≤ 1000000000 = F-most (y - m) in
    let c : F (z - m) ≤ 1000000000 = F-most (z - m) in (
      ⊎_elim (λ e. omega (arith, F-at-zero (x - m) e))
          (λ w. ⊎_elim (λ e. omega (arith, F-at-zero (y - m) e)) (λ e. omega (arith, F-at-zero (z - m) e)) w)
          (one-is-least x y z),
      omega arith,
    )
