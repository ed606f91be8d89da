-- What the shifts of the rounding are: powers of two that stay small, so that nothing wraps. Assumes nothing.
use mathlib.Core.Path.{◌≡◌, sym, ◌∙◌, ap, subst}
use mathlib.Core.Bool.{Bool, true, false}
use Prim.Native.Nat.{ℕ, ◌+◌, ◌*◌, ◌-◌, ◌/◌, ◌%◌, ◌^◌, ◌≤◌, ◌<◌}
use native.Mathlib.Nat.{mul-le-mul_right, mul_comm}
use native.Mathlib.Omega.{arith}
use lib.IntN.{ℤ, pos, neg_ℤ, ◌-ℤ◌}
use lib.Pow.{pow-add, pow_pos, pow_mono}
use mir.Syntax.{w32}
use mir.Val.{SFits, to_z, of_z}
use mir.Facts.{to_z-of_z}
use Rattle.quantity.proofs.Rim.{as-pos}
use Rattle.laws.proofs.Ints.{minus, opposite, eq-made, fits-made}
use Rattle.intake.specs.Nearest.{held_of, size_of, nearest_to}
use Rattle.intake.proofs.Nearest.{sized, size_small}
use Rattle.laws.proofs.Bits.{one_bit}

pub product : (scale digits : ℕ) → scale ≤ 100 → digits < 16777216 → scale * digits ≤ 1677721600
product scale digits h g = omega (arith, mul-le-mul_right digits h)

pub one_shifted : (p : ℕ) → p ≤ 48 → 1 * 2 ^ p % 18446744073709551616 ≡ 2 ^ p
one_shifted p h = one_bit 64 p (omega arith)

pub power : (p : ℕ) → 16 ≤ p → p ≤ 31 → (65536 ≤ 2 ^ p) × (2 ^ p ≤ 2147483648)
power p h g = (pow_mono {i = 16} {j = p} h, pow_mono {i = p} {j = 31} g)

twice_power : (p : ℕ) → 2 ^ (p + 1) ≡ 2 * 2 ^ p
twice_power p = pow-add 2 p 1 ∙ mul_comm (2 ^ p) 2

pub shifted : (s : Bool) (n p h : ℕ) → p ≤ 31 → h ≡ held_of s → (2 * n + 1 * 2 ^ p % 18446744073709551616 - h) / 2 ^ (p + 1) ≡ size_of s n (2 ^ p)
unfolding size_of
shifted s n p h k e = rw (one_shifted p (omega arith), twice_power p, e)

-- the size fits, and with its sign it is the nearest number
pub size_fits : (s : Bool) (scale digits p : ℕ) → scale ≤ 100 → digits < 16777216 → 16 ≤ p → p ≤ 31
    → size_of s (scale * digits) (2 ^ p) < 2147483648
size_fits s scale digits p h g k l =
    size_small s (scale * digits) (2 ^ p) (power p k l).0 (power p k l).1 (product scale digits h g)

pub plus_sign : (m n p : ℕ) → m < 2147483648 → m ≡ size_of false n (2 ^ p) → to_z w32 m ≡ nearest_to false n (2 ^ p)
plus_sign m n p h e = as-pos m h ∙ ap pos e ∙ sized false n (2 ^ p) (pow_pos p)

negated : (m : ℕ) → m < 2147483648 → pos 0 -ℤ to_z w32 m ≡ neg_ℤ (pos m)
negated m h = ap (λ (z : ℤ). pos 0 -ℤ z) (as-pos m h) ∙ eq-made (omega (arith, minus (pos 0) (pos m), opposite (pos m)))

pub minus_fits : (m : ℕ) → m < 2147483648 → SFits w32 (pos 0 -ℤ to_z w32 m)
minus_fits m h = subst (SFits w32) (sym (negated m h)) (fits-made (omega (arith, opposite (pos m))) (omega (arith, opposite (pos m))))

pub minus_sign : (m n p : ℕ) → m < 2147483648 → m ≡ size_of true n (2 ^ p) → to_z w32 (of_z w32 (pos 0 -ℤ to_z w32 m)) ≡ nearest_to true n (2 ^ p)
minus_sign m n p h e = to_z-of_z (minus_fits m h) ∙ negated m h ∙ ap (λ (x : ℕ). neg_ℤ (pos x)) e ∙ sized true n (2 ^ p) (pow_pos p)

-- a size with its sign
pub ruleset sign_laws = (size_fits, plus_sign, minus_fits, minus_sign)
