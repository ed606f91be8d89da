-- F is the greatest by its rule; a hundred tenths further down it is a tenth, rounded down; so the table's test at its hundred
-- entries gives F everywhere. F is at most 10 ^ 9. Assumes nothing.
use mathlib.Core.Path.{◌≡◌, sym, ◌∙◌, ap, subst}
use mathlib.Core.Bool.{Bool, not}
use Prim.Native.Nat.{ℕ, zero, suc, ◌+◌, ◌*◌, ◌/◌, ◌^◌, ◌≤◌, ◌<◌}
use native.Mathlib.Nat.{pow-le-pow_left, pow-suc, mul-le-mul_right, le_trans, lt_of_lt_of_le, not-le_of_lt, zero-mul, one-mul, mul-one, mul_assoc, div-one, div-mul-le_self, div-div-eq-div-mul}
use native.Mathlib.Omega.{arith}
use lib.Dec.{T, leb→le, le→leb, lit<, lit≤, T_not}
use lib.ListN.{get_or}
use lib.Pow.{pow-add}
use Rattle.laws.specs.Extremes.{Greatest, greatest}
use Rattle.laws.proofs.Extremes.{Down, found, found-is, greatest-unique}
use Rattle.laws.proofs.Table.{both, both_left, both_right, every, at}
use Rattle.energy.specs.Energies.{F, energy_rule}
use Rattle.energy.proofs.Powers.{ten-up, ten-pos, grow, pass-down, mul-pow}
use Rattle.energy.proofs.Lists.{energies}

down : (d : ℕ) → Down (energy_rule d)
unfolding energy_rule
down d m n h t =
    pass-down (m ^ 100 * 10 ^ d) (n ^ 100 * 10 ^ d) (10 ^ 900) (mul-le-mul_right (10 ^ d) (pow-le-pow_left h 100)) t

top : (d : ℕ) → T (energy_rule d (2 ^ 30)) → ⊥
unfolding energy_rule
top d t =
    not-le_of_lt (lt_of_lt_of_le (lit< {m = 10 ^ 900} {n = (2 ^ 30) ^ 100} tt) (grow ((2 ^ 30) ^ 100) (ten-pos d)))
    (leb→le ((2 ^ 30) ^ 100 * 10 ^ d) (10 ^ 900) t)

is-F : (d n : ℕ) → T (energy_rule d n) → (T (energy_rule d (suc n)) → ⊥) → n ≡ F d
unfolding F
is-F d n t f = found-is 30 (energy_rule d) (down d) (top d) n t f

-- the meaning of F, for every d
pub F-greatest : (d : ℕ) → Greatest (λ n. n ^ 100 * 10 ^ d ≤ 10 ^ 900) (F d)
unfolding F energy_rule
F-greatest d =
    let g : Greatest (λ n. T (energy_rule d n)) (greatest 30 (energy_rule d)) = found 30 (energy_rule d) (down d) (none d) (top d) in
    record {
      holds = leb→le (greatest 30 (energy_rule d) ^ 100 * 10 ^ d) (10 ^ 900) g.holds;
      best = λ m h. g.best m (le→leb (m ^ 100 * 10 ^ d) (10 ^ 900) h);
    }
  where
    none : (d : ℕ) → T (energy_rule d 0)
    none d = le→leb (0 ^ 100 * 10 ^ d) (10 ^ 900) (subst (λ (x : ℕ). x ≤ 10 ^ 900) (sym (zero-mul (10 ^ d))) (lit≤ tt))

-- a hundred tenths are a factor of ten
factor : (n d : ℕ) → n ^ 100 * 10 ^ (100 + d) ≡ (n * 10) ^ 100 * 10 ^ d
factor n d =
    ap (λ (x : ℕ). n ^ 100 * x) (pow-add 10 100 d)
    ∙ sym (mul_assoc (n ^ 100) (10 ^ 100) (10 ^ d))
    ∙ ap (λ (x : ℕ). x * 10 ^ d) (sym (mul-pow n 10 100))

-- the floor of a floor
pub F-tenth : (d : ℕ) → F (100 + d) ≡ F d / 10
F-tenth d = greatest-unique (F-greatest (100 + d)) (record { holds = holds; best = best })
  where
    holds : (F d / 10) ^ 100 * 10 ^ (100 + d) ≤ 10 ^ 900
    holds =
        subst (λ (x : ℕ). x ≤ 10 ^ 900) (sym (factor (F d / 10) d))
        (le_trans (mul-le-mul_right (10 ^ d) (pow-le-pow_left (div-mul-le_self (F d) 10) 100)) (F-greatest d).holds)

    best : (m : ℕ) → m ^ 100 * 10 ^ (100 + d) ≤ 10 ^ 900 → m ≤ F d / 10
    best m h = omega (arith, (F-greatest d).best (m * 10) (subst (λ (x : ℕ). x ≤ 10 ^ 900) (factor m d) h))

-- so k hundreds divide by ten k times
pub F-hundreds : (k r : ℕ) → F (100 * k + r) ≡ F r / 10 ^ k
F-hundreds zero r = ap F (omega arith) ∙ sym (div-one (F r))
F-hundreds (suc k) r =
    ap F (omega arith)
    ∙ F-tenth (100 * k + r)
    ∙ ap (λ (x : ℕ). x / 10) (F-hundreds k r)
    ∙ div-div-eq-div-mul (F r) (10 ^ k) 10
    ∙ ap (λ (x : ℕ). F r / x) (sym (pow-suc 10 k))

pub F-above : (d : ℕ) → 900 < d → 0 ≡ F d
unfolding energy_rule
F-above d h = is-F d 0
    (le→leb (0 ^ 100 * 10 ^ d) (10 ^ 900) (subst (λ (x : ℕ). x ≤ 10 ^ 900) (sym (zero-mul (10 ^ d))) (lit≤ tt)))
    (λ t. not-le_of_lt (lt_of_lt_of_le (lit< {m = 10 ^ 900} {n = 10 ^ 901} tt) (ten-up h))
    (subst (λ (x : ℕ). x ≤ 10 ^ 900) (one-mul (10 ^ d)) (leb→le (1 ^ 100 * 10 ^ d) (10 ^ 900) t)))

-- the rule at an entry: it passes and the next number does not
right : ℕ → ℕ → Bool
right d n = both (energy_rule d n) (not (energy_rule d (suc n)))

checked : T (every right 0 energies)
unfolding right energies energy_rule
checked = tt

pub entry-is : (d : ℕ) → d < 100 → get_or energies d 0 ≡ F d
unfolding right energies
entry-is d h =
    let x : ℕ = get_or energies d 0 in
    let t : T (right d x) = at right energies checked d h in
    is-F d x (both_left (energy_rule d x) (not (energy_rule d (suc x))) t)
    (T_not (energy_rule d (suc x)) (both_right (energy_rule d x) (not (energy_rule d (suc x))) t))

pub F-first : F 0 ≡ 1000000000
unfolding energies
F-first = sym (entry-is 0 (lit< tt))

-- no energy is above the first
pub F-most : (d : ℕ) → F d ≤ 1000000000
F-most d =
    subst (λ (x : ℕ). F d ≤ x) F-first
    ((F-greatest 0).best (F d)
    (subst (λ (x : ℕ). x ≤ 10 ^ 900) (sym (mul-one (F d ^ 100))) (le_trans (grow (F d ^ 100) (ten-pos d)) (F-greatest d).holds)))
