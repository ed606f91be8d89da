-- Monotone powers, and tests read as orders. The large powers stay behind these laws. Assumes nothing.
use Prim.Native.Nat.{ℕ, zero, suc, ◌*◌, ◌^◌, ◌≤◌}
use native.Mathlib.Nat.{pow-le-pow_right, pow-zero, pow-suc, mul-le-mul_left, le_trans, one-le-pow, mul-one, mul-mul-mul_comm}
use native.Mathlib.Omega.{arith}
use mathlib.Core.Path.{◌≡◌, sym, ◌∙◌, ap, ap₂, subst}
use lib.Dec.{T, leb, leb→le, le→leb}

-- a power of ten grows with its exponent
pub ten-up : {i j : ℕ} → i ≤ j → 10 ^ i ≤ 10 ^ j
ten-up h = pow-le-pow_right (omega arith) h

pub ten-pos : (j : ℕ) → 1 ≤ 10 ^ j
ten-pos j = one-le-pow j 10 (omega arith)

-- a power of a product
pub mul-pow : (a b k : ℕ) → (a * b) ^ k ≡ a ^ k * b ^ k
mul-pow a b zero = pow-zero (a * b) ∙ sym (ap₂ ◌*◌ (pow-zero a) (pow-zero b))
mul-pow a b (suc k) =
    pow-suc (a * b) k
    ∙ ap (λ (x : ℕ). x * (a * b)) (mul-pow a b k)
    ∙ mul-mul-mul_comm (a ^ k) (b ^ k) a b
    ∙ ap₂ ◌*◌ (sym (pow-suc a k)) (sym (pow-suc b k))

-- a factor of at least 1 only makes greater
pub grow : (a : ℕ) {b : ℕ} → 1 ≤ b → a ≤ a * b
grow a {b} h = subst (λ (x : ℕ). x ≤ a * b) (mul-one a) (mul-le-mul_left a h)

-- a test passed and what is below it on the left passes too
pub pass-down : (a b c : ℕ) → a ≤ b → T (leb b c) → T (leb a c)
pass-down a b c h t = le→leb a c (le_trans h (leb→le b c t))
