-- Decimal texts: a number below ten is one digit, any other its tenth part's text and one digit more. How many steps are granted
-- does not matter, if they are more than the number. Assumes nothing.
use mathlib.Core.Path.{◌≡◌, refl, sym, ◌∙◌, ap}
use mathlib.Core.Bool.{Bool, true, false}
use mathlib.Core.List.{List, [], ◌∷◌, ◌++◌}
use Prim.Native.Nat.{ℕ, zero, suc, ◌+◌, ◌*◌, ◌/◌, ◌%◌, ◌^◌, ◌≤◌, ◌<◌}
use native.Mathlib.Nat.{pow-suc}
use native.Mathlib.Omega.{arith}
use borrow.Author.Tests.{lt-ltb, le-ltb, ltb-true, ltb-false}
use lib.Dec.{ltb}
use lib.ListN.{length, length-append}
use Rattle.answer.specs.Texts.{digit, decimal, decimal_by}

by_one : (more n : ℕ) → n < 10 → decimal_by (suc more) n ≡ digit n ∷ []
unfolding decimal_by
by_one more n h = rw (lt-ltb n 10 h, decimal_by)

by-more : (more n : ℕ) → 10 ≤ n → decimal_by (suc more) n ≡ decimal_by more (n / 10) ++ (digit (n % 10) ∷ [])
unfolding decimal_by
by-more more n h = rw (le-ltb n 10 h, decimal_by)

fuels : (f g n : ℕ) → n < f → n < g → decimal_by f n ≡ decimal_by g n
fuels zero g n h k = absurd (omega arith)
fuels (suc f) zero n h k = absurd (omega arith)
fuels (suc f) (suc g) n h k = go (ltb n 10) refl (λ (j : 10 ≤ n). fuels f g (n / 10) (omega arith) (omega arith))
  where
    go : (t : Bool) → ltb n 10 ≡ t → (10 ≤ n → decimal_by f (n / 10) ≡ decimal_by g (n / 10)) → decimal_by (suc f) n ≡ decimal_by (suc g) n
    go true e r = by_one f n (ltb-true n 10 e) ∙ sym (by_one g n (ltb-true n 10 e))
    go false e r =
        by-more f n (ltb-false n 10 e) ∙ ap (λ (l : List ℕ). l ++ (digit (n % 10) ∷ [])) (r (ltb-false n 10 e)) ∙ sym (by-more g n (ltb-false n 10 e))

pub decimal-one : (n : ℕ) → n < 10 → decimal n ≡ digit n ∷ []
unfolding decimal
decimal-one n h = by_one n n h

pub decimal-more : (n : ℕ) → 10 ≤ n → decimal n ≡ decimal (n / 10) ++ (digit (n % 10) ∷ [])
unfolding decimal
decimal-more n h =
    by-more n n h ∙ ap (λ (l : List ℕ). l ++ (digit (n % 10) ∷ [])) (fuels n (suc (n / 10)) (n / 10) (omega arith) (omega arith))

pub decimal_step : (a b : ℕ) → 0 < a → b < 10 → decimal (10 * a + b) ≡ decimal a ++ (digit b ∷ [])
decimal_step a b h k =
    decimal-more (10 * a + b) (omega arith)
    ∙ ap (λ (n : ℕ). decimal n ++ (digit ((10 * a + b) % 10) ∷ [])) (tenth a b k)
    ∙ ap (λ (n : ℕ). decimal a ++ (digit n ∷ [])) (unit a b k)
  where
    tenth : (a b : ℕ) → b < 10 → (10 * a + b) / 10 ≡ a
    tenth a b k = omega arith

    unit : (a b : ℕ) → b < 10 → (10 * a + b) % 10 ≡ b
    unit a b k = omega arith

-- how many digits: at least one, and k more where the number is at least 10 ^ k
pub digits_are : (k n : ℕ) → 10 ^ k ≤ n → n < 10 ^ suc k → suc k ≡ length (decimal n)
digits_are zero n h l = sym (ap length (decimal-one n l))
digits_are (suc k) n h l =
    let big : 10 ≤ n = omega (arith, positive k, pow-suc 10 k) in
    let rest : suc k ≡ length (decimal (n / 10)) = digits_are k (n / 10) (omega (arith, pow-suc 10 k)) (omega (arith, pow-suc 10 (suc k))) in
    sym (ap length (decimal-more n big) ∙ length-append (decimal (n / 10)) (digit (n % 10) ∷ []) ∙ omega arith)
  where
    positive : (k : ℕ) → 1 ≤ 10 ^ k
    positive zero = omega arith
    positive (suc k) = omega (arith, positive k, pow-suc 10 k)

-- and at most k below 10 ^ k
pub digits-most : (k n : ℕ) → n < 10 ^ suc k → length (decimal n) ≤ suc k
digits-most zero n l = omega (arith, ap length (decimal-one n l))
digits-most (suc k) n l = go (ltb n 10) refl (digits-most k (n / 10) (omega (arith, pow-suc 10 (suc k))))
  where
    go : (t : Bool) → ltb n 10 ≡ t → length (decimal (n / 10)) ≤ suc k → length (decimal n) ≤ suc (suc k)
    go true e r = omega (arith, ap length (decimal-one n (ltb-true n 10 e)))
    go false e r =
        omega (arith, ap length (decimal-more n (ltb-false n 10 e)), length-append (decimal (n / 10)) (digit (n % 10) ∷ []))
