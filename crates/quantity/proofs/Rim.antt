-- Between signed numbers and naturals: what a sum or a difference that is not below 0 is as a natural. Assumes nothing.
use mathlib.Core.Path.{◌≡◌, refl}
use mathlib.Core.Bool.{Bool, true, false, ◌&&◌}
use Prim.Native.Nat.{ℕ, ◌+◌, ◌≤◌, ◌<◌}
use native.Mathlib.Omega.{arith}
use borrow.Author.Tests.{le-leb, lt-leb, leb-true}
use lib.Dec.{leb}
use lib.IntN.{ℤ, pos, negsuc, ◌+ℤ◌, ◌-ℤ◌}
use lib.Signed.{mag}
use mir.Syntax.{w32}
use mir.Val.{to_z, of_z}
use mir.Facts.{to_z-of_z, to_z_pos}
use Rattle.laws.specs.Parts.{P, N}
use Rattle.laws.proofs.Ints.{plus, minus, apart}
use Rattle.quantity.specs.Quantities.{in_range}

pub sum-value : (z : ℤ) (f : ℕ) → N z ≤ f → P (z +ℤ pos f) + N z ≡ f + P z
sum-value z f h = omega (arith, plus z (pos f), apart (z +ℤ pos f))

pub difference-value : (z : ℤ) (f : ℕ) → P z ≤ f → P (pos f -ℤ z) + P z ≡ f + N z
difference-value z f h = omega (arith, minus (pos f) z, apart (pos f -ℤ z))

-- a signed field or element, read back from its bits
pub back : (z : ℤ) → mag z < 2147483648 → to_z w32 (of_z w32 z) ≡ z
back z h = to_z-of_z {w = w32} (record { sfits = h })

-- a natural below 2 ^ 31, read as signed
pub as-pos : (n : ℕ) → n < 2147483648 → to_z w32 n ≡ pos n
as-pos n h = to_z_pos w32 h

-- a value in the range of bands, and one out of it on either side
pub range-yes : (z : ℤ) → N z ≤ 200 → P z ≤ 1500 → true ≡ in_range z
unfolding in_range
range-yes (pos n) h k = rw (le-leb n 1500 k)
range-yes (negsuc n) h k = rw (le-leb n 199 (omega arith))

pub range-low : (z : ℤ) → 200 < N z → false ≡ in_range z
unfolding in_range
range-low (pos n) h = absurd (omega arith)
range-low (negsuc n) h = rw (lt-leb n 199 (omega arith))

pub range-high : (z : ℤ) → 1500 < P z → false ≡ in_range z
unfolding in_range
range-high (pos n) h = rw (lt-leb n 1500 h)
range-high (negsuc n) h = absurd (omega arith)

-- and back
pub range-read : (z : ℤ) → in_range z ≡ true → (N z ≤ 200) × (P z ≤ 1500)
unfolding in_range
range-read (pos n) e = omega (arith, leb-true n 1500 e)
range-read (negsuc n) e = omega (arith, leb-true n 199 (left (leb n 199) e))
  where
    left : (b : Bool) → b && true ≡ true → b ≡ true
    left true e = refl
    left false e = e
