-- One bit of a word, and the last bit of a number. Assumes nothing.
use mathlib.Core.Path.{◌≡◌, refl, ◌∙◌}
use mathlib.Core.Bool.{Bool, true, false}
use Prim.Native.Nat.{ℕ, ◌+◌, ◌*◌, ◌%◌, ◌^◌, ◌<◌}
use native.Mathlib.Nat.{one-mul}
use native.Mathlib.Omega.{arith}
use borrow.Author.Tests.{leb-true, leb-false}
use lib.Dec.{leb}
use lib.Pow.{shl_exact}

-- shifted to a place of the word, it does not wrap
pub one_bit : (width i : ℕ) → i < width → 1 * 2 ^ i % 2 ^ width ≡ 2 ^ i
one_bit width i h = shl_exact {a = 1} 1 i width (omega arith) (omega arith) ∙ one-mul (2 ^ i)

-- no even number is odd
pub even_odd : (x y : ℕ) (A : Type 0) → 2 * x ≡ 2 * y + 1 → A
even_odd x y A e = go (leb x y) refl
  where
    go : (le : Bool) → leb x y ≡ le → A
    go true l = absurd (omega (arith, leb-true x y l))
    go false l = absurd (omega (arith, leb-false x y l))
