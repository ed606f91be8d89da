-- k is the greatest whole number with its rule, of all of ℤ. The rule at q and the rule at the index q + 70 are one inequality,
-- both sides of the first times a power of ten; a q below -70 is below k in any case. Assumes nothing.
use mathlib.Core.Path.{◌≡◌, sym, ◌∙◌, ap, subst}
use Prim.Native.Nat.{ℕ, ◌+◌, ◌*◌, ◌-◌, ◌^◌, ◌≤◌}
use native.Mathlib.Nat.{mul-le-mul_right, le_of_mul-le-mul_right, le_trans, le_of_eq, mul_assoc, mul-one}
use native.Mathlib.Decide.{dec_le}
use native.Mathlib.Omega.{arith}
use lib.Dec.{T, leb→le, le→leb}
use lib.IntN.{ℤ, pos, negsuc}
use lib.Pow.{pow-add}
use lib.Signed.{◌≤ℤ◌}
use Rattle.laws.specs.Extremes.{Greatest, greatest}
use Rattle.laws.specs.Parts.{P, N}
use Rattle.laws.proofs.Extremes.{found}
use Rattle.laws.proofs.Ints.{apart, minus, le-made}
use Rattle.energy.specs.Corrections.{TimeRule, time_rule, k}
use Rattle.energy.proofs.Powers.{ten-pos}
use Rattle.energy.proofs.Amounts.{need_k, size_k, down-k, top-k, base-k}

-- z is the greatest whole number of which R holds
pub record GreatestWhole (R : ℤ → Type 0) (z : ℤ) : Type 0 where
  pub holds : R z
  pub best : (q : ℤ) → R q → q ≤ℤ z

-- the powers of ten on the two sides of the rule at q
abbrev left : ℤ → ℕ
left (pos ℕ.zero) = 0
left (pos (ℕ.suc n)) = 2 * n + 1
left (negsuc n) = 0

abbrev right : ℤ → ℕ
right (pos ℕ.zero) = 1
right (pos (ℕ.suc n)) = 0
right (negsuc n) = 2 * n + 3

abbrev Sides : ℕ → ℤ → Type 0
Sides t q = 50 ^ 200 * 10 ^ left q ≤ t ^ 200 * 10 ^ right q

rule-sides : (t : ℕ) (q : ℤ) → TimeRule t q → Sides t q
unfolding TimeRule
rule-sides t (pos ℕ.zero) h = subst (λ (x : ℕ). x ≤ t ^ 200 * 10 ^ 1) (sym (mul-one (50 ^ 200))) h
rule-sides t (pos (ℕ.suc n)) h = subst (λ (x : ℕ). 50 ^ 200 * 10 ^ (2 * n + 1) ≤ x) (sym (mul-one (t ^ 200))) h
rule-sides t (negsuc n) h = subst (λ (x : ℕ). x ≤ t ^ 200 * 10 ^ (2 * n + 3)) (sym (mul-one (50 ^ 200))) h

sides-rule : (t : ℕ) (q : ℤ) → Sides t q → TimeRule t q
unfolding TimeRule
sides-rule t (pos ℕ.zero) h = subst (λ (x : ℕ). x ≤ t ^ 200 * 10 ^ 1) (mul-one (50 ^ 200)) h
sides-rule t (pos (ℕ.suc n)) h = subst (λ (x : ℕ). 50 ^ 200 * 10 ^ (2 * n + 1) ≤ x) (mul-one (t ^ 200)) h
sides-rule t (negsuc n) h = subst (λ (x : ℕ). x ≤ t ^ 200 * 10 ^ (2 * n + 3)) (mul-one (50 ^ 200)) h

-- i is q + 70
abbrev Index : ℕ → ℤ → Type 0
Index i q = i + N q ≡ 70 + P q

-- times 10 ^ (141 - right q), the powers are those of the index
places : (i : ℕ) (q : ℤ) → Index i q → (left q + (141 - right q) ≡ 2 * i) × (right q + (141 - right q) ≡ 141)
places i (pos ℕ.zero) e = omega arith
places i (pos (ℕ.suc n)) e = omega arith
places i (negsuc n) e = omega arith

more : (a x s : ℕ) {p : ℕ} → x + s ≡ p → a * 10 ^ x * 10 ^ s ≡ a * 10 ^ p
more a x s e = mul_assoc a (10 ^ x) (10 ^ s) ∙ ap (λ (w : ℕ). a * w) (sym (pow-add 10 x s)) ∙ ap (λ (n : ℕ). a * 10 ^ n) e

module _ (t i : ℕ) (q : ℤ) (e : Index i q) where
  abbrev s : ℕ
  s = 141 - right q

  need-more : 50 ^ 200 * 10 ^ left q * 10 ^ s ≡ need_k i
  need-more = more (50 ^ 200) (left q) s (places i q e).0

  size-more : t ^ 200 * 10 ^ right q * 10 ^ s ≡ size_k t
  size-more = more (t ^ 200) (right q) s (places i q e).1

  to-index : TimeRule t q → need_k i ≤ size_k t
  to-index h = le_trans (le_of_eq (sym need-more)) (le_trans (mul-le-mul_right (10 ^ s) (rule-sides t q h)) (le_of_eq size-more))

  from-index : need_k i ≤ size_k t → TimeRule t q
  from-index h = sides-rule t q
      (le_of_mul-le-mul_right (le_trans (le_of_eq need-more) (le_trans h (le_of_eq (sym size-more)))) (ten-pos s))

-- the meaning of k
pub k-greatest : (t : ℕ) → 10 ≤ t → t ≤ 2000 → GreatestWhole (TimeRule t) (k t)
unfolding k time_rule
k-greatest t a b = record {
  holds = from-index t n (k t) at-k (leb→le (need_k n) (size_k t) g.holds);
  best = λ q r. best q r (dec_le (N q) 70);
}
  where
    n : ℕ
    n = greatest 8 (time_rule t)

    g : Greatest (λ i. T (time_rule t i)) n
    g = found 8 (time_rule t) (down-k t) (le→leb (need_k 0) (size_k t) (base-k t a)) (top-k t b)

    at-k : Index n (k t)
    at-k = omega (arith, minus (pos n) (pos 70))

    best : (q : ℤ) → TimeRule t q → Dec (N q ≤ 70) → q ≤ℤ k t
    best q r (yes h) =
        let i : ℕ = 70 + P q - N q in
        let e : Index i q = omega arith in
        le-made (omega (arith, at-k, g.best i (le→leb (need_k i) (size_k t) (to-index t i q e r))))
    best q r (no h) = le-made (omega (arith, at-k, apart q))
