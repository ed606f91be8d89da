-- Tests of the numbers below n: that all pass, that some does, that none does. Assumes nothing.
use mathlib.Core.Path.{◌≡◌, refl, sym, ◌∙◌, ap, ap₂}
use mathlib.Core.Bool.{Bool, true, false, ◌&&◌, ◌||◌, and-false, or-true}
use Prim.Native.Nat.{ℕ, zero, suc, ◌+◌, ◌<◌}
use native.Mathlib.Nat.{le_refl}
use native.Mathlib.Decide.{dec_lt}
use native.Mathlib.Numerals.{add-one}
use native.Mathlib.Omega.{arith}
use lib.Dec.{T}
use Rattle.laws.specs.Tests.{all_to, any_to}
use Rattle.laws.proofs.Tests.{never, both, holds, is_true}

-- ---- all pass
pub all_none : (ok : ℕ → Bool) → all_to ok 0 ≡ true
unfolding all_to
all_none ok = refl

pub all-suc : (ok : ℕ → Bool) (n : ℕ) → all_to ok (n + 1) ≡ all_to ok n && ok n
unfolding all_to
all-suc ok n = ap (all_to ok) (add-one n)

pub all_more : (ok : ℕ → Bool) (n : ℕ) → all_to ok n ≡ true → ok n ≡ true → all_to ok (n + 1) ≡ true
unfolding all_to
all_more ok n a b = all-suc ok n ∙ ap₂ ◌&&◌ a b

pub all-fails : (ok : ℕ → Bool) (n i : ℕ) → i < n → ok i ≡ false → all_to ok n ≡ false
unfolding all_to
all-fails ok zero i h e = absurd (omega arith)
all-fails ok (suc n) i h e = go (λ p. all-fails ok n i p e) (dec_lt i n)
  where
    go : (i < n → all_to ok n ≡ false) → Dec (i < n) → all_to ok n && ok n ≡ false
    go before (yes p) = ap (λ (b : Bool). b && ok n) (before p)
    go before (no p) = let s : i ≡ n = omega arith in
        ap (λ (b : Bool). all_to ok n && b) (ap ok (sym s) ∙ e) ∙ and-false (all_to ok n)

pub all-at : (ok : ℕ → Bool) (n : ℕ) → all_to ok n ≡ true → (i : ℕ) → i < n → ok i ≡ true
unfolding all_to
all-at ok zero e i h = absurd (omega arith)
all-at ok (suc n) e i h = go (λ p. all-at ok n (both (all_to ok n) (ok n) e).0 i p) (dec_lt i n)
  where
    go : (i < n → ok i ≡ true) → Dec (i < n) → ok i ≡ true
    go before (yes p) = before p
    go before (no p) = let s : i ≡ n = omega arith in ap ok s ∙ (both (all_to ok n) (ok n) e).1

pub all_made : (ok : ℕ → Bool) (n : ℕ) → ((i : ℕ) → i < n → ok i ≡ true) → all_to ok n ≡ true
unfolding all_to
all_made ok zero h = refl
all_made ok (suc n) h = ap₂ ◌&&◌ (all_made ok n (λ i p. h i (omega arith))) (h n (le_refl (suc n)))

-- tests that say the same of each number say the same of all of them, and of some
pub all_same : (f g : ℕ → Bool) (n : ℕ) → ((i : ℕ) → i < n → f i ≡ g i) → all_to f n ≡ all_to g n
unfolding all_to
all_same f g zero h = refl
all_same f g (suc n) h = ap₂ ◌&&◌ (all_same f g n (λ i q. h i (omega arith))) (h n (le_refl (suc n)))

pub any_same : (f g : ℕ → Bool) (n : ℕ) → ((i : ℕ) → i < n → f i ≡ g i) → any_to f n ≡ any_to g n
unfolding any_to
any_same f g zero h = refl
any_same f g (suc n) h = ap₂ ◌||◌ (any_same f g n (λ i q. h i (omega arith))) (h n (le_refl (suc n)))

-- the same as facts
pub all_read : (ok : ℕ → Bool) (n : ℕ) → T (all_to ok n) → (i : ℕ) → i < n → T (ok i)
all_read ok n t i h = holds (all-at ok n (is_true (all_to ok n) t) i h)

pub all_hold : (ok : ℕ → Bool) (n : ℕ) → ((i : ℕ) → i < n → T (ok i)) → T (all_to ok n)
all_hold ok n h = holds (all_made ok n (λ i p. is_true (ok i) (h i p)))

-- ---- some passes
pub any_none : (ok : ℕ → Bool) (n : ℕ) → ((i : ℕ) → i < n → ok i ≡ false) → any_to ok n ≡ false
unfolding any_to
any_none ok zero h = refl
any_none ok (suc n) h = ap₂ ◌||◌ (any_none ok n (λ i p. h i (omega arith))) (h n (le_refl (suc n)))

pub any-more : (ok : ℕ → Bool) (n : ℕ) → any_to ok n ≡ false → ok n ≡ false → any_to ok (n + 1) ≡ false
unfolding any_to
any-more ok n a b = ap (any_to ok) (add-one n) ∙ ap₂ ◌||◌ a b

pub any_found : (ok : ℕ → Bool) (n i : ℕ) → i < n → ok i ≡ true → any_to ok n ≡ true
unfolding any_to
any_found ok zero i h e = absurd (omega arith)
any_found ok (suc n) i h e = go (λ p. any_found ok n i p e) (dec_lt i n)
  where
    go : (i < n → any_to ok n ≡ true) → Dec (i < n) → any_to ok n || ok n ≡ true
    go before (yes p) = ap (λ (b : Bool). b || ok n) (before p)
    go before (no p) =
        let s : i ≡ n = omega arith in
        ap (λ (b : Bool). any_to ok n || b) (ap ok (sym s) ∙ e) ∙ or-true (any_to ok n)

pub any-mono : (f g : ℕ → Bool) (n : ℕ) → ((i : ℕ) → f i ≡ true → g i ≡ true) → any_to f n ≡ true → any_to g n ≡ true
unfolding any_to
any-mono f g zero m e = e
any-mono f g (suc n) m e = go (any-mono f g n m) (any_to f n) refl
  where
    go : (any_to f n ≡ true → any_to g n ≡ true) → (b : Bool) → any_to f n ≡ b → any_to g n || g n ≡ true
    go before true q = ap (λ (b : Bool). b || g n) (before q)
    go before false q = ap (λ (b : Bool). any_to g n || b) (m n (sym (ap (λ (b : Bool). b || f n) q) ∙ e)) ∙ or-true (any_to g n)

-- a number below n that passes
pub record Some (ok : ℕ → Bool) (n : ℕ) : Type 0 where
  pub at : ℕ
  pub below : at < n
  pub passes : ok at ≡ true

pub any_some : (ok : ℕ → Bool) (n : ℕ) → any_to ok n ≡ true → Some ok n
unfolding any_to
any_some ok zero e = absurd (never e refl)
any_some ok (suc n) e = go (any_some ok n) (any_to ok n) refl
  where
    go : (any_to ok n ≡ true → Some ok n) → (b : Bool) → any_to ok n ≡ b → Some ok (suc n)
    go before true q = let s = before q in record { at = s.at; below = omega (arith, s.below); passes = s.passes }
    go before false q = record { at = n; below = le_refl (suc n); passes = sym (ap (λ (b : Bool). b || ok n) q) ∙ e }
