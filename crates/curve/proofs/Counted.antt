-- A band's level as a natural: what it is by the parts of its value. Assumes nothing.
use mathlib.Core.Path.{◌≡◌, sym, subst}
use mathlib.Core.Bool.{Bool, true, false}
use Prim.Native.Nat.{ℕ, ◌+◌, ◌≤◌}
use native.Mathlib.Omega.{arith}
use lib.Dec.{T}
use lib.IntN.{ℤ, pos, ◌+ℤ◌, ◌-ℤ◌}
use Rattle.laws.specs.Parts.{P, N}
use Rattle.laws.proofs.Ints.{plus, minus, apart}
use Rattle.quantity.specs.Quantities.{in_range}
use Rattle.quantity.proofs.Rim.{range-read, sum-value, difference-value}
use Rattle.curve.specs.Levels.{level_by, bottom, Countable, Entries}

-- what the two steps to naturals ask of a band value and its entry
pub record Counted (sign : Bool) (x : ℤ) (e : ℕ) : Type 0 where
  pub low : N x ≤ 200
  pub high : P x ≤ 1500
  pub base : bottom sign ≤ e
  pub most : e ≤ 3000

pub counted : (sign : Bool) (x : ℤ) (e : ℕ) → in_range x ≡ true → Entries sign e → Counted sign x e
counted sign x e r h = record { low = (range-read x r).0; high = (range-read x r).1; base = h.low; most = h.high }

pub up_is : (sign : Bool) (z : ℤ) (e r : ℕ) → sign ≡ true → Countable sign z e → r + N z ≡ e + P z → r ≡ level_by sign z e
unfolding level_by
up_is true z e r p h d = omega (arith, sum-value z e h.0)
up_is false z e r p h d = absurd (subst T (sym p) tt)

pub down_is : (sign : Bool) (z : ℤ) (e r : ℕ) → sign ≡ false → Countable sign z e → r + P z ≡ e + N z → r ≡ level_by sign z e
unfolding level_by
down_is true z e r p h d = absurd (subst T p tt)
down_is false z e r p h d = omega (arith, difference-value z e h.0)

-- a band value can be counted from its entry
pub countable : (sign : Bool) (x : ℤ) (e : ℕ) → in_range x ≡ true → Entries sign e → Countable sign x e
countable true x e r h =
    let c = counted true x e r h in
    (omega (arith, c.low, c.base), omega (arith, c.high, c.most))
countable false x e r h =
    let c = counted false x e r h in
    (omega (arith, c.high, c.base), omega (arith, c.low, c.most))

-- and back, for the theory
abbrev pub PartsOf : Bool → ℤ → ℕ → ℕ → Type 0
PartsOf true x e r = r + N x ≡ e + P x
PartsOf false x e r = r + P x ≡ e + N x

pub level-parts : (sign : Bool) (x : ℤ) (e : ℕ) → Counted sign x e → PartsOf sign x e (level_by sign x e)
unfolding level_by
level-parts true x e h = omega (arith, plus x (pos e), apart (x +ℤ pos e), h.low, h.base)
level-parts false x e h = omega (arith, minus (pos e) x, apart (pos e -ℤ x), h.high, h.base)

pub level-most : (sign : Bool) (x : ℤ) (e : ℕ) → Counted sign x e → level_by sign x e ≤ 4500
level-most true x e h = omega (arith, level-parts true x e h, h.high, h.most)
level-most false x e h = omega (arith, level-parts false x e h, h.low, h.most)
