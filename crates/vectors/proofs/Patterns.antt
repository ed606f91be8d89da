-- A bit pattern up to the infinities is no NaN's. Assumes nothing.
use mathlib.Core.Path.{◌≡◌, refl, sym, subst}
use mathlib.Core.Bool.{Bool, true, false, not, ◌&&◌}
use Prim.Native.Nat.{ℕ, ◌/◌, ◌%◌, ◌≤◌}
use native.Mathlib.Omega.{arith}
use borrow.Author.Tests.{eq-eqb, eqb-true}
use lib.Dec.{T, eqb}
use lib.Ieee.{nan_bits, binary32}

pub no_nan : (b : ℕ) → b % 2147483648 ≤ 2139095040 → T (not (nan_bits binary32 b))
unfolding nan_bits
no_nan b h = go (eqb (b % 2147483648 / 8388608) 255) refl
  where
    go : (t : Bool) → eqb (b % 2147483648 / 8388608) 255 ≡ t → T (not (t && not (eqb (b % 8388608) 0)))
    go false e = tt
    go true e =
        let w : b % 2147483648 / 8388608 ≡ 255 = eqb-true (b % 2147483648 / 8388608) 255 e in
        let z : b % 8388608 ≡ 0 = omega arith in
        subst (λ (t : Bool). T (not (not t))) (sym (eq-eqb (b % 8388608) 0 z)) tt
