-- Single bytes: a byte that is not 0 stands within the line; a digit is its value above 48. Assumes nothing.
use mathlib.Core.Path.{◌≡◌, refl, sym, ◌∙◌, subst}
use mathlib.Core.Bool.{Bool, true, false, cond, ◌&&◌}
use mathlib.Core.List.{List, [], ◌∷◌}
use Prim.Native.Nat.{ℕ, zero, suc, ◌+◌, ◌-◌, ◌≤◌, ◌<◌, suc-le-suc}
use native.Mathlib.Omega.{arith}
use borrow.Author.Tests.{le-leb, lt-leb, leb-true}
use lib.Dec.{leb, T}
use lib.ListN.{length}
use Rattle.quantity.specs.Keys.{byte_at, between}
use Rattle.request.specs.Reading.{digit_of}

pub inside : (s : List ℕ) (i : ℕ) → 0 < byte_at s i → i < length s
inside [] i h = absurd (omega arith)
inside (b ∷ s) zero h = omega arith
inside (b ∷ s) (suc i) h = suc-le-suc (inside s i h)

pub digit-yes : (b : ℕ) → 48 ≤ b → b ≤ 57 → b - 48 ≡ digit_of b
unfolding digit_of
digit-yes b h k = simp (le-leb 48 b h, le-leb b 57 k)

pub digit_low : (b : ℕ) → b < 48 → 10 ≡ digit_of b
unfolding digit_of
digit_low b h = simp (lt-leb 48 b h)

pub digit-high : (b : ℕ) → 57 < b → 10 ≡ digit_of b
unfolding digit_of
digit-high b h = simp (le-leb 48 b (omega arith), lt-leb b 57 h)

pub digit-small : (b : ℕ) → 48 ≤ b → b ≤ 57 → digit_of b < 10
digit-small b h k = omega (arith, digit-yes b h k)

-- what a byte is as a digit, by where it stands
pub ruleset digits = (digit-yes, digit-small, digit_low, digit-high)

-- the test of a digit
pub digit-between : (b : ℕ) → between 48 57 b ≡ true → (48 ≤ b) × (b ≤ 57)
digit-between b e = go (leb 48 b) (leb b 57) refl refl e
  where
    go : (x y : Bool) → leb 48 b ≡ x → leb b 57 ≡ y → x && y ≡ true → (48 ≤ b) × (b ≤ 57)
    go true true p q e = (leb-true 48 b p, leb-true b 57 q)
    go true false p q e = absurd (subst T (sym e) tt)
    go false y p q e = absurd (subst T (sym e) tt)

-- what the value of a digit says of its byte
pub record Digit (b : ℕ) : Type 0 where
  pub is : b ≡ 48 + digit_of b
  pub small : digit_of b < 10

pub digit-read : (b : ℕ) → digit_of b < 10 → Digit b
unfolding digit_of
digit-read b h = go (leb 48 b) (leb b 57) refl refl h
  where
    go : (x y : Bool) → leb 48 b ≡ x → leb b 57 ≡ y → cond (x && y) (b - 48) 10 < 10 → Digit b
    go true true p q k =
        let e : b - 48 ≡ digit_of b = digit-yes b (leb-true 48 b p) (leb-true b 57 q) in
        record { is = omega (arith, leb-true 48 b p); small = omega arith }
    go true false p q k = absurd (omega arith)
    go false true p q k = absurd (omega arith)
    go false false p q k = absurd (omega arith)

pub digit-made : (d : ℕ) → d < 10 → digit_of (48 + d) ≡ d
digit-made d h = sym (digit-yes (48 + d) (omega arith) (omega arith)) ∙ omega arith

pub inside-byte : (s : List ℕ) (at b : ℕ) → b ≡ byte_at s at → 0 < b → at < length s
inside-byte s at b e h = inside s at (omega arith)
