-- Integers counted up from a number, or down from one: the lesser and the greater of two, and what one lies above another, are
-- the same of the counts. Assumes nothing.
use mathlib.Core.Path.{◌≡◌, refl}
use mathlib.Core.Bool.{Bool, true, false, cond}
use Prim.Native.Nat.{ℕ, ◌+◌, ◌-◌, ◌≤◌, min, max}
use native.Mathlib.Omega.{arith}
use lib.IntN.{ℤ, ◌-ℤ◌}
use lib.Signed.{le_z}
use Rattle.laws.specs.Parts.{P, N, lesser, greater}
use Rattle.laws.proofs.Ints.{minus, apart, le_yes, le-no}

-- g counts a up from c, or down from c
abbrev pub Up : ℕ → ℤ → ℕ → Type 0
Up c a g = g + N a ≡ c + P a

abbrev pub Down : ℕ → ℤ → ℕ → Type 0
Down c a g = g + P a ≡ c + N a

module _ (c : ℕ) (a b : ℤ) (g h : ℕ) where
  pub lesser-up : Up c a g → Up c b h → Up c (lesser a b) (min g h)
  lesser-up p q = go (le_z a b) refl
    where
      go : (t : Bool) → le_z a b ≡ t → Up c (cond t a b) (min g h)
      go true e = omega (arith, le_yes a b e)
      go false e = omega (arith, le-no a b e)

  pub greater-up : Up c a g → Up c b h → Up c (greater a b) (max g h)
  greater-up p q = go (le_z a b) refl
    where
      go : (t : Bool) → le_z a b ≡ t → Up c (cond t b a) (max g h)
      go true e = omega (arith, le_yes a b e)
      go false e = omega (arith, le-no a b e)

  pub greater-down : Down c a g → Down c b h → Down c (greater a b) (min g h)
  greater-down p q = go (le_z a b) refl
    where
      go : (t : Bool) → le_z a b ≡ t → Down c (cond t b a) (min g h)
      go true e = omega (arith, le_yes a b e)
      go false e = omega (arith, le-no a b e)

  pub above-up : Up c a g → Up c b h → h ≤ g → P (a -ℤ b) ≡ g - h
  above-up p q r = omega (arith, minus a b, apart (a -ℤ b))

  pub above_down : Down c a g → Down c b h → h ≤ g → P (b -ℤ a) ≡ g - h
  above_down p q r = omega (arith, minus b a, apart (b -ℤ a))
