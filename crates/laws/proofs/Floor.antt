-- Division of an integer by a natural, rounded down: the quotient is the one whose multiple lies less than a divisor below; and
-- rounded up, above. Assumes nothing.
use mathlib.Core.Path.{◌≡◌, ◌∙◌, ap}
use Prim.Native.Nat.{ℕ, suc, ◌+◌, ◌*◌, ◌≤◌, ◌<◌}
use native.Mathlib.Nat.{div-add-mod', mod-lt, le_antisymm, lt_of_mul-lt-mul_left}
use native.Mathlib.Omega.{arith}
use lib.IntN.{ℤ, pos, negsuc, neg_ℤ}
use lib.Signed.{shr_z}
use Rattle.laws.specs.Parts.{P, N}
use Rattle.laws.proofs.Ints.{opposite, eq-made}

-- m times q is at most z, and less than a divisor below it
pub record IsFloor (m : ℕ) (z q : ℤ) : Type 0 where
  pub low : m * P q + N z ≤ P z + m * N q
  pub high : P z + m * N q < m * P q + N z + m

pub floor-is : (m : ℕ) → 0 < m → (z : ℤ) → IsFloor m z (shr_z z m)
floor-is m h (pos a) = record { low = omega (arith, div-add-mod' a m); high = omega (arith, div-add-mod' a m, mod-lt a h) }
floor-is m h (negsuc a) = record { low = omega (arith, div-add-mod' a m, mod-lt a h); high = omega (arith, div-add-mod' a m) }

-- of two such quotients neither is above the other
one_way : (m : ℕ) (z q r : ℤ) → IsFloor m z q → IsFloor m z r → P q + N r ≤ P r + N q
one_way m z q r a b =
    let h : m * (P q + N r) < m * suc (P r + N q) = omega (arith, a.low, b.high) in
    let k : P q + N r < suc (P r + N q) = lt_of_mul-lt-mul_left m h in
    omega arith

pub floor-unique : (m : ℕ) → 0 < m → (z q : ℤ) → IsFloor m z q → q ≡ shr_z z m
floor-unique m h z q a =
    let b : IsFloor m z (shr_z z m) = floor-is m h z in
    eq-made (le_antisymm (one_way m z q (shr_z z m) a b) (one_way m z (shr_z z m) q b a))

-- rounded up: m times q is at least z, and less than a divisor above it
pub record IsCeiling (m : ℕ) (z q : ℤ) : Type 0 where
  pub low : P z + m * N q ≤ m * P q + N z
  pub high : m * P q + N z < P z + m * N q + m

-- it is the floor with both signs turned
turned : (m : ℕ) (z q : ℤ) → IsFloor m (neg_ℤ z) q → IsCeiling m z (neg_ℤ q)
turned m z q f =
    let a : m * P (neg_ℤ q) ≡ m * N q = ap (λ (n : ℕ). m * n) (opposite q).0 in
    let b : m * N (neg_ℤ q) ≡ m * P q = ap (λ (n : ℕ). m * n) (opposite q).1 in
    record { low = omega (arith, f.low, opposite z); high = omega (arith, f.high, opposite z) }

turned-back : (m : ℕ) (z q : ℤ) → IsCeiling m z q → IsFloor m (neg_ℤ z) (neg_ℤ q)
turned-back m z q c =
    let a : m * P (neg_ℤ q) ≡ m * N q = ap (λ (n : ℕ). m * n) (opposite q).0 in
    let b : m * N (neg_ℤ q) ≡ m * P q = ap (λ (n : ℕ). m * n) (opposite q).1 in
    record { low = omega (arith, c.low, opposite z); high = omega (arith, c.high, opposite z) }

pub ceiling-is : (m : ℕ) → 0 < m → (z : ℤ) → IsCeiling m z (neg_ℤ (shr_z (neg_ℤ z) m))
ceiling-is m h z = turned m z (shr_z (neg_ℤ z) m) (floor-is m h (neg_ℤ z))

pub ceiling-unique : (m : ℕ) → 0 < m → (z q : ℤ) → IsCeiling m z q → q ≡ neg_ℤ (shr_z (neg_ℤ z) m)
ceiling-unique m h z q c =
    let twice : q ≡ neg_ℤ (neg_ℤ q) = eq-made (omega (arith, opposite q, opposite (neg_ℤ q))) in
    twice ∙ ap neg_ℤ (floor-unique m h (neg_ℤ z) (neg_ℤ q) (turned-back m z q c))
