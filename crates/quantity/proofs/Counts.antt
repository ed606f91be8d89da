-- Band values as naturals counted from a floor: what the steps to naturals and back ask, and what they give. Assumes nothing.
use mathlib.Core.Path.{◌≡◌}
use mathlib.Core.Bool.{true}
use Prim.Native.Nat.{ℕ, ◌+◌, ◌≤◌, ◌<◌}
use native.Mathlib.Omega.{arith}
use lib.IntN.{ℤ}
use mir.Syntax.{w32}
use mir.Val.{to_z, of_z}
use mir.Facts.{to_z-of_z}
use Rattle.laws.specs.Parts.{P, N}
use Rattle.laws.proofs.Ints.{fits-made}
use Rattle.laws.proofs.Counted.{Up}
use Rattle.quantity.specs.Quantities.{in_range}
use Rattle.quantity.proofs.Rim.{range-read}

-- ---- numbers of 32 bits that are near 0, read back from their bits
pub near : (z : ℤ) → P z ≤ 100000 → N z ≤ 100000 → to_z w32 (of_z w32 z) ≡ z
near z h k = to_z-of_z (fits-made (omega arith) (omega arith))

-- what is asked where x is counted from a floor, and what is given
pub asks : (x : ℤ) (floor : ℕ) → N x ≤ floor → P x ≤ 100000 → floor ≤ 100000
    → (N (to_z w32 (of_z w32 x)) ≤ floor) × (P (to_z w32 (of_z w32 x)) + floor < 2147483648)
asks x floor h k f = rw (near x k (omega arith)) (h, omega arith)

pub gives : (x : ℤ) (floor t : ℕ) → N x ≤ floor → P x ≤ 100000 → floor ≤ 100000
    → t + N (to_z w32 (of_z w32 x)) ≡ floor + P (to_z w32 (of_z w32 x)) → Up floor x t
gives x floor t h k f e = rw (near x k (omega arith)) at e

-- the same of a band value
pub band-asks : (x : ℤ) (floor : ℕ) → in_range x ≡ true → 200 ≤ floor → floor ≤ 100000
    → (N (to_z w32 (of_z w32 x)) ≤ floor) × (P (to_z w32 (of_z w32 x)) + floor < 2147483648)
band-asks x floor r h f = let b = range-read x r in asks x floor (omega arith) (omega arith) f

-- a band value counted from a floor
pub record Band (floor : ℕ) (x : ℤ) (t : ℕ) : Type 0 where
  pub up : Up floor x t
  pub most : t ≤ 1500 + floor

pub band-gives : (x : ℤ) (floor t : ℕ) → in_range x ≡ true → 200 ≤ floor → floor ≤ 100000
    → t + N (to_z w32 (of_z w32 x)) ≡ floor + P (to_z w32 (of_z w32 x)) → Band floor x t
band-gives x floor t r h f e =
    let b = range-read x r in
    let u : Up floor x t = gives x floor t (omega arith) (omega arith) f e in
    record { up = u; most = omega arith }
