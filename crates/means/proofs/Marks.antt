-- Marks as bits: one mark of three, what it adds to the number, and that bit j of the number is mark j. Assumes nothing.
use mathlib.Core.Path.{◌≡◌, refl, sym, ◌∙◌, ap}
use mathlib.Core.Bool.{Bool, true, false}
use Prim.Native.Nat.{ℕ, zero, suc, ◌+◌, ◌*◌, ◌-◌, ◌/◌, ◌%◌, ◌^◌, ◌≤◌, ◌<◌}
use native.Mathlib.Nat.{add-zero, add_comm, two-pow-succ, lt_irrefl, mod-eq_of_lt, add-mul-mod_self_right}
use native.Mathlib.Numerals.{add-one}
use native.Mathlib.Decide.{dec_lt}
use native.Mathlib.Omega.{arith}
use borrow.Author.Tests.{eq-eqb, ne_eqb}
use lib.Dec.{eqb}
use lib.Pow.{pow-add, pow_mono, shl-shr, mod-pow-add}
use Rattle.measurement.specs.Lists.{weight_of}
use Rattle.laws.specs.Tests.{bit}
use Rattle.means.specs.Sets.{marks_to}
use Rattle.measurement.proofs.Runs.{weight-most}

-- a mark above bit j leaves the remainder by 2 ^ j
raised : (m : ℕ) (b : Bool) (n j : ℕ) → j ≤ n → (m + weight_of b n) % 2 ^ j ≡ m % 2 ^ j
raised m false n j h = ap (λ (x : ℕ). x % 2 ^ j) (add-zero m)
raised m true n j h =
    let e : n ≡ n - j + j = omega arith in
    ap (λ (x : ℕ). (m + x) % 2 ^ j) (ap (λ (k : ℕ). 2 ^ k) e ∙ pow-add 2 (n - j) j) ∙ add-mul-mod_self_right m (2 ^ (n - j)) (2 ^ j)

-- the digit that a mark makes
cancel : (x y j : ℕ) → x * 2 ^ j ≡ y * 2 ^ j → x ≡ y
cancel x y j e = sym (shl-shr x j) ∙ ap (λ (m : ℕ). m / 2 ^ j) e ∙ shl-shr y j

digit : (x j m : ℕ) (b : Bool) → m + weight_of b j ≡ x * 2 ^ j + m → eqb x 1 ≡ b
digit x j m true e = eq-eqb x 1 (cancel x 1 j (omega arith))
digit x j m false e = let z : x ≡ 0 = cancel x 0 j (omega arith) in ne_eqb x 1 (λ o. lt_irrefl 0 (omega arith))

module _ (f : ℕ → Bool) where
  pub marks_none : marks_to f 0 ≡ 0
  unfolding marks_to
  marks_none = refl

  pub marks_more : (n : ℕ) → marks_to f (n + 1) ≡ marks_to f n + weight_of (f n) n
  unfolding marks_to
  marks_more n = ap (marks_to f) (add-one n)

  pub marks-below : (n : ℕ) → marks_to f n < 2 ^ n
  unfolding marks_to
  marks-below zero = omega arith
  marks-below (suc n) = omega (arith, marks-below n, weight-most (f n) n, two-pow-succ n)

  -- one more mark still fits 16 bits
  pub marks_fit : (n m w : ℕ) → n < 16 → m ≡ marks_to f n → w ≡ weight_of (f n) n → m + w < 65536
  marks_fit n m w h d e =
      omega (arith, marks_more n, marks-below (n + 1), pow_mono {i = n + 1} {j = 16} (omega arith))

  -- the lower marks are the remainder
  lower : (n j : ℕ) → j ≤ n → marks_to f n % 2 ^ j ≡ marks_to f j
  unfolding marks_to
  lower zero zero h = refl
  lower zero (suc j) h = absurd (omega arith)
  lower (suc n) j h = go (λ p. lower n j p) (dec_lt n j)
    where
      go : (j ≤ n → marks_to f n % 2 ^ j ≡ marks_to f j) → Dec (n < j) → (marks_to f n + weight_of (f n) n) % 2 ^ j ≡ marks_to f j
      go below (yes p) =
          let e : j ≡ suc n = omega arith in
          ap (λ (i : ℕ). (marks_to f n + weight_of (f n) n) % 2 ^ i) e ∙ mod-eq_of_lt (marks-below (suc n)) ∙ ap (marks_to f) (sym e)
      go below (no p) = raised (marks_to f n) (f n) n j (omega arith) ∙ below (omega arith)

  -- bit j of the number is mark j
  pub marks-bit : (n j : ℕ) → j < n → bit (marks_to f n) j ≡ f j
  marks-bit n j h =
      digit (marks_to f n / 2 ^ j % 2) j (marks_to f j) (f j)
      (sym (lower n (1 + j) (omega arith) ∙ ap (marks_to f) (add_comm 1 j) ∙ marks_more j)
      ∙ mod-pow-add (marks_to f n) 1 j
      ∙ ap (λ (x : ℕ). marks_to f n / 2 ^ j % 2 * 2 ^ j + x) (lower n j (omega arith)))
