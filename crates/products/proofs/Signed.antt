-- Sums of small signed numbers do not wrap: what the code's 32-bit sums are. Assumes nothing.
use mathlib.Core.Path.{◌≡◌, sym, ◌∙◌, ap, ap₂, subst}
use Prim.Native.Nat.{◌≤◌}
use native.Mathlib.Omega.{arith}
use lib.IntN.{ℤ, pos, neg_ℤ, ◌+ℤ◌, ◌-ℤ◌}
use mir.Syntax.{w32}
use mir.Val.{SFits, to_z, of_z}
use Rattle.laws.specs.Parts.{P, N}
use Rattle.laws.proofs.Ints.{plus, minus, apart, opposite, eq-made, fits-made}
use Rattle.quantity.proofs.Counts.{near}
use Rattle.rating.specs.Bounds.{Small}

-- read back from its bits
abbrev pub bits : ℤ → ℤ
bits z = to_z w32 (of_z w32 z)

small : (z : ℤ) → Small z → bits z ≡ z
small z h = near z (omega arith) (omega arith)

-- what is computed as z and is w, a small number, is read back as w
read : (z w : ℤ) → z ≡ w → P w ≤ 100000 → N w ≤ 100000 → bits z ≡ w
read z w e p q = ap bits e ∙ near w p q

-- the difference of two small numbers
module _ (x y : ℤ) (h : (P x ≤ 10000) × (N x ≤ 10000)) (k : (P y ≤ 10000) × (N y ≤ 10000)) where
  same : bits x -ℤ bits y ≡ x -ℤ y
  same = ap₂ ◌-ℤ◌ (near x (omega arith) (omega arith)) (near y (omega arith) (omega arith))

  pub difference_fits : SFits w32 (bits x -ℤ bits y)
  difference_fits =
      let m = minus x y in
      let a = apart (x -ℤ y) in
      subst (SFits w32) (sym same) (fits-made (omega (arith, m, a)) (omega (arith, m, a)))

  pub difference_is : bits (bits x -ℤ bits y) ≡ x -ℤ y
  difference_is =
      let m = minus x y in
      let a = apart (x -ℤ y) in
      read (bits x -ℤ bits y) (x -ℤ y) same (omega (arith, m, a)) (omega (arith, m, a))

-- the numbers of a cover
pub rating_is : (r : ℤ) → Small r → bits (pos 78 -ℤ bits r) ≡ pos 78 -ℤ r
rating_is r h =
    let m = minus (pos 78) r in
    read (pos 78 -ℤ bits r) (pos 78 -ℤ r) (ap (λ (z : ℤ). pos 78 -ℤ z) (small r h)) (omega (arith, m, apart (pos 78 -ℤ r))) (omega (arith, m, apart (pos 78 -ℤ r)))

pub term_is : (t : ℤ) → Small t → bits (pos 0 -ℤ bits (bits t +ℤ pos 10)) ≡ neg_ℤ (t +ℤ pos 10)
term_is t h =
    let z : ℤ = t +ℤ pos 10 in
    let p = plus t (pos 10) in
    let inner : bits (bits t +ℤ pos 10) ≡ z = read (bits t +ℤ pos 10) z (ap (λ (y : ℤ). y +ℤ pos 10) (small t h)) (omega (arith, p, apart z)) (omega (arith, p, apart z)) in
    let negated : pos 0 -ℤ z ≡ neg_ℤ z = eq-made (omega (arith, minus (pos 0) z, opposite z)) in
    read (pos 0 -ℤ bits (bits t +ℤ pos 10)) (neg_ℤ z) (ap (λ (y : ℤ). pos 0 -ℤ y) inner ∙ negated) (omega (arith, p, apart z, opposite z)) (omega (arith, p, apart z, opposite z))
