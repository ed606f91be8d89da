-- Greatest, least and number: each is unique; the bit by bit search finds the greatest; where smaller numbers pass too, the
-- greatest is also how many pass. Assumes nothing.
use mathlib.Core.Path.{◌≡◌, refl, sym, ◌∙◌, ap, subst}
use mathlib.Core.Bool.{Bool, true, false, cond}
use Prim.Native.Nat.{ℕ, zero, suc, ◌+◌, ◌-◌, ◌^◌, ◌≤◌, ◌<◌}
use native.Mathlib.Nat.{le_antisymm, lt_of_not-le, not-le_of_lt, le_refl, add-zero, add-suc}
use native.Mathlib.Omega.{arith}
use native.Mathlib.Decide.{dec_le}
use lib.Dec.{T}
use Rattle.laws.specs.Extremes.{Greatest, Number, one_if, count_to, settle, greatest}

-- smaller numbers pass too
abbrev pub Down : (ℕ → Bool) → Type 0
Down ok = (m n : ℕ) → m ≤ n → T (ok n) → T (ok m)

pub greatest-unique : {R : ℕ → Type 0} {m n : ℕ} → Greatest R m → Greatest R n → m ≡ n
greatest-unique {m = m} {n = n} a b = le_antisymm (b.best m a.holds) (a.best n b.holds)

-- n passes and n + 1 does not: n is the greatest
pub edge : (ok : ℕ → Bool) → Down ok → (n : ℕ) → T (ok n) → (T (ok (suc n)) → ⊥) → Greatest (λ m. T (ok m)) n
edge ok down n t f = record {
  holds = t;
  best = λ m h. go m h (dec_le m n);
}
  where
    go : (m : ℕ) → T (ok m) → Dec (m ≤ n) → m ≤ n
    go m h (yes p) = p
    go m h (no p) = absurd (f (down (suc n) m (lt_of_not-le p) h))

abbrev Passed : (ℕ → Bool) → ℕ → Type 0
Passed ok n = T (ok n) × (T (ok (suc n)) → ⊥)

-- at each bit: n passes, and n + 2 ^ (bits left) does not
settled : (ok : ℕ → Bool) (k n : ℕ) → T (ok n) → (T (ok (n + 2 ^ k)) → ⊥) → Passed ok (settle ok k n)
unfolding settle
settled ok zero n t f = (t, λ h. f (subst (λ (m : ℕ). T (ok m)) (one_more n) h))
  where
    one_more : (n : ℕ) → suc n ≡ n + 2 ^ 0
    one_more n = omega arith
settled ok (suc k) n t f = go (λ m. settled ok k m) (ok (n + 2 ^ k)) refl
  where
    double : (n k : ℕ) → n + 2 ^ k + 2 ^ k ≡ n + 2 ^ suc k
    double n k = omega arith

    go : ((m : ℕ) → T (ok m) → (T (ok (m + 2 ^ k)) → ⊥) → Passed ok (settle ok k m))
        → (b : Bool) → ok (n + 2 ^ k) ≡ b → Passed ok (settle ok k (cond b (n + 2 ^ k) n))
    go next true e = next (n + 2 ^ k) (subst T (sym e) tt) (λ h. f (subst (λ (m : ℕ). T (ok m)) (double n k) h))
    go next false e = next n t (λ h. subst T e h)

-- the search's answer is the greatest that passes
pub found : (bits : ℕ) (ok : ℕ → Bool) → Down ok → T (ok 0) → (T (ok (2 ^ bits)) → ⊥)
    → Greatest (λ m. T (ok m)) (greatest bits ok)
unfolding greatest
found bits ok down t f = edge ok down (settle ok bits 0) p.0 p.1
  where
    p : Passed ok (settle ok bits 0)
    p = settled ok bits 0 t (λ h. f (subst (λ (m : ℕ). T (ok m)) (none (2 ^ bits)) h))
      where
        none : (m : ℕ) → 0 + m ≡ m
        none m = omega arith

-- the answer has no more bits than were tried
settle-below : (ok : ℕ → Bool) (k n : ℕ) → settle ok k n < n + 2 ^ k
unfolding settle
settle-below ok zero n = omega arith
settle-below ok (suc k) n = go (λ m. settle-below ok k m) (ok (n + 2 ^ k))
  where
    go : ((m : ℕ) → settle ok k m < m + 2 ^ k) → (b : Bool) → settle ok k (cond b (n + 2 ^ k) n) < n + 2 ^ suc k
    go next true = omega (arith, next (n + 2 ^ k))
    go next false = omega (arith, next n)

pub greatest-below : (bits : ℕ) (ok : ℕ → Bool) → greatest bits ok < 2 ^ bits
unfolding greatest
greatest-below bits ok = omega (arith, settle-below ok bits 0)

-- whoever passes with its successor failing is the search's answer
pub found-is : (bits : ℕ) (ok : ℕ → Bool) → Down ok → (T (ok (2 ^ bits)) → ⊥)
    → (n : ℕ) → T (ok n) → (T (ok (suc n)) → ⊥) → n ≡ greatest bits ok
found-is bits ok down top n t f = greatest-unique (edge ok down n t f) (found bits ok down (down 0 n (omega arith) t) top)

pass-is : (b : Bool) → T b → one_if b ≡ 1
pass-is true t = refl
pass-is false t = absurd t

fail-is : (b : Bool) → (T b → ⊥) → one_if b ≡ 0
fail-is true f = absurd (f tt)
fail-is false f = refl

count-all : (ok : ℕ → Bool) (b : ℕ) → ((j : ℕ) → 1 ≤ j → j ≤ b → T (ok j)) → count_to ok b ≡ b
unfolding count_to
count-all ok zero h = refl
count-all ok (suc b) h =
    omega (arith, count-all ok b (λ j p q. h j p (omega arith)), pass-is (ok (suc b)) (h (suc b) (omega arith) (le_refl (suc b))))

count-rest : (ok : ℕ → Bool) (n k : ℕ) → ((j : ℕ) → n < j → T (ok j) → ⊥) → count_to ok (n + k) ≡ count_to ok n
unfolding count_to
count-rest ok n zero h = ap (count_to ok) (add-zero n)
count-rest ok n (suc k) h =
    ap (count_to ok) (add-suc n k)
    ∙ omega (arith, count-rest ok n k h, fail-is (ok (suc (n + k))) (h (suc (n + k)) (omega arith)))

-- where smaller ones pass too, the greatest that passes is the number of j >= 1 that pass
pub number_of : (ok : ℕ → Bool) → Down ok → {n : ℕ} → Greatest (λ m. T (ok m)) n → Number ok n
number_of ok down {n} g = record {
  enough = n;
  count = λ b h.
      subst (λ (m : ℕ). count_to ok m ≡ n) (split n b h)
      (count-rest ok n (b - n) (λ j p t. not-le_of_lt p (g.best j t))
      ∙ count-all ok n (λ j p q. down j n q g.holds));
}
  where
    split : (n b : ℕ) → n ≤ b → n + (b - n) ≡ b
    split n b h = omega arith
