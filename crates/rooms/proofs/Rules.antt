-- Levels as numbers of 32 bits: they are small, and so are their differences and what a time adds, so that each fits and is read
-- back as it is. Assumes nothing.
use mathlib.Core.Path.{◌≡◌, sym, ◌∙◌, ap, ap₂, subst}
use mathlib.Core.Bool.{Bool, true, false, cond}
use Prim.Native.Nat.{ℕ, ◌+◌, ◌≤◌, ◌<◌}
use native.Mathlib.Omega.{arith}
use lib.IntN.{ℤ, pos, ◌+ℤ◌, ◌-ℤ◌}
use lib.Signed.{le_z, lt_z}
use mir.Syntax.{w32}
use mir.Val.{to_z, of_z, SFits}
use Rattle.laws.specs.Parts.{P, N}
use Rattle.laws.specs.Extremes.{greatest}
use Rattle.laws.proofs.Extremes.{greatest-below}
use Rattle.laws.proofs.Ints.{plus, minus, apart, eq-read, fits-made}
use Rattle.quantity.specs.Quantities.{in_range}
use Rattle.quantity.proofs.Rim.{range-read, as-pos}
use Rattle.quantity.proofs.Counts.{near}
use Rattle.energy.specs.Corrections.{c, k, background_rule, time_rule}
use Rattle.rooms.specs.Background.{above, field_level}
use Rattle.rooms.specs.Raw.{difference}

-- ---- numbers of at most n in size
pub record Within (n : ℕ) (z : ℤ) : Type 0 where
  pub high : P z ≤ n
  pub low : N z ≤ n

pub less_within : (m n : ℕ) (x y : ℤ) → Within m x → Within n y → Within (m + n) (x -ℤ y)
less_within m n x y a b = record {
  high = omega (arith, minus x y, apart (x -ℤ y));
  low = omega (arith, minus x y, apart (x -ℤ y));
}

plus_within : (m n : ℕ) (x y : ℤ) → Within m x → Within n y → Within (m + n) (x +ℤ y)
plus_within m n x y a b = record {
  high = omega (arith, plus x y, apart (x +ℤ y));
  low = omega (arith, plus x y, apart (x +ℤ y));
}

-- what the code holds of a number
abbrev pub held : ℤ → ℤ
held z = to_z w32 (of_z w32 z)

-- u and v are held of x and y: their difference and their sum fit, and are held as they are
module _ (m n : ℕ) (u v x y : ℤ) (h : m + n ≤ 100000) (a : u ≡ x) (b : v ≡ y) (s : Within m x) (t : Within n y) where
  less_fits : SFits w32 (u -ℤ v)
  less_fits = let w = less_within m n x y s t in subst (SFits w32) (sym (ap₂ ◌-ℤ◌ a b)) (fits-made (omega arith) (omega arith))

  less_held : held (u -ℤ v) ≡ x -ℤ y
  less_held = let w = less_within m n x y s t in ap held (ap₂ ◌-ℤ◌ a b) ∙ near (x -ℤ y) (omega arith) (omega arith)

  plus_fits : SFits w32 (u +ℤ v)
  plus_fits = let w = plus_within m n x y s t in subst (SFits w32) (sym (ap₂ ◌+ℤ◌ a b)) (fits-made (omega arith) (omega arith))

  plus_held : held (u +ℤ v) ≡ x +ℤ y
  plus_held = let w = plus_within m n x y s t in ap held (ap₂ ◌+ℤ◌ a b) ∙ near (x +ℤ y) (omega arith) (omega arith)

-- ---- levels, and what a correction and a time add
ranged_within : (x : ℤ) → in_range x ≡ true → Within 1500 x
ranged_within x r = let b = range-read x r in record { high = omega arith; low = omega arith }

level_held : (x : ℤ) → Within 1500 x → held x ≡ x
level_held x s = near x (omega arith) (omega arith)

module _ (x y : ℤ) (p : in_range x ≡ true) (q : in_range y ≡ true) where
  pub apart_fits : SFits w32 (held x -ℤ held y)
  apart_fits =
      let s = ranged_within x p in
      let t = ranged_within y q in
      less_fits 1500 1500 (held x) (held y) x y (omega arith) (level_held x s) (level_held y t) s t

  pub apart_held : held (held x -ℤ held y) ≡ x -ℤ y
  apart_held =
      let s = ranged_within x p in
      let t = ranged_within y q in
      less_held 1500 1500 (held x) (held y) x y (omega arith) (level_held x s) (level_held y t) s t

module _ (x : ℤ) (k : ℕ) (p : in_range x ≡ true) (q : k < 1000) where
  pub lowered_fits : SFits w32 (held x -ℤ to_z w32 k)
  lowered_fits =
      let s = ranged_within x p in
      less_fits 1500 1000 (held x) (to_z w32 k) x (pos k) (omega arith) (level_held x s) (as-pos k (omega arith)) s (record { high = omega arith; low = omega arith })

  pub lowered_held : held (held x -ℤ to_z w32 k) ≡ x -ℤ pos k
  lowered_held =
      let s = ranged_within x p in
      less_held 1500 1000 (held x) (to_z w32 k) x (pos k) (omega arith) (level_held x s) (as-pos k (omega arith)) s (record { high = omega arith; low = omega arith })

pub c_small : (d : ℕ) → c d < 16
unfolding c
c_small d = greatest-below 4 (background_rule d)

-- r is k counted from -70
module _ (r t : ℕ) (e : pos r -ℤ pos 70 ≡ k t) where
  k_within : Within 256 (k t)
  unfolding k
  k_within =
      let g : ℕ = greatest 8 (time_rule t) in record {
        high = omega (arith, minus (pos g) (pos 70), apart (pos g -ℤ pos 70), greatest-below 8 (time_rule t));
        low = omega (arith, minus (pos g) (pos 70), apart (pos g -ℤ pos 70));
      }

  pub step_small : r < 1000
  step_small = let w = k_within in omega (arith, eq-read e, minus (pos r) (pos 70))

  same : to_z w32 r -ℤ pos 70 ≡ k t
  same = ap (λ (z : ℤ). z -ℤ pos 70) (as-pos r (omega (arith, step_small))) ∙ e

  pub step_fits : SFits w32 (to_z w32 r -ℤ pos 70)
  step_fits = let w = k_within in subst (SFits w32) (sym same) (fits-made (omega arith) (omega arith))

  step_held : held (to_z w32 r -ℤ pos 70) ≡ k t
  step_held = let w = k_within in ap held same ∙ near (k t) (omega arith) (omega arith)

-- a corrected level is at most its total, and at most 1.5 dB below it
field_within : (total background : ℤ) → in_range total ≡ true → Within 1500 (field_level total background)
unfolding field_level
field_within total background r = go (le_z (above total background) (pos 60)) (lt_z (above total background) (pos 100)) (range-read total r)
  where
    n : ℕ
    n = c (P (above total background))

    less : (k : ℕ) → k < 16 → (N total ≤ 200) × (P total ≤ 1500) → Within 1500 (total -ℤ pos k)
    less k l b = record {
      high = omega (arith, minus total (pos k), apart (total -ℤ pos k), apart total);
      low = omega (arith, minus total (pos k), apart (total -ℤ pos k), apart total);
    }

    go : (a b : Bool) → (N total ≤ 200) × (P total ≤ 1500) → Within 1500 (cond a (total -ℤ pos 13) (cond b (total -ℤ pos n) total))
    go true b h = less 13 (omega arith) h
    go false true h = less n (c_small (P (above total background))) h
    go false false h = record { high = omega arith; low = omega arith }

-- ---- the standardized difference, as the code adds it up
module _ (source receiving background level : ℤ) (p : in_range source ≡ true) (q : in_range receiving ≡ true) (f : level ≡ field_level receiving background) where
  abbrev fl : ℤ
  fl = field_level receiving background

  level_is : held level ≡ fl
  level_is = ap held f ∙ level_held fl (field_within receiving background q)

  pub levels_fit : SFits w32 (held source -ℤ held level)
  levels_fit =
      let s = ranged_within source p in
      less_fits 1500 1500 (held source) (held level) source fl (omega arith) (level_held source s) level_is s (field_within receiving background q)

  levels_held : held (held source -ℤ held level) ≡ source -ℤ fl
  levels_held =
      let s = ranged_within source p in
      less_held 1500 1500 (held source) (held level) source fl (omega arith) (level_held source s) level_is s (field_within receiving background q)

  levels_within : Within 3000 (source -ℤ fl)
  levels_within = less_within 1500 1500 source fl (ranged_within source p) (field_within receiving background q)

  module _ (r t : ℕ) (e : pos r -ℤ pos 70 ≡ k t) where
    pub sum_fits : SFits w32 (held (held source -ℤ held level) +ℤ held (to_z w32 r -ℤ pos 70))
    sum_fits = plus_fits 3000 256 (held (held source -ℤ held level)) (held (to_z w32 r -ℤ pos 70)) (source -ℤ fl) (k t) (omega arith) levels_held (step_held r t e) levels_within (k_within r t e)

    pub sum_held : held (held (held source -ℤ held level) +ℤ held (to_z w32 r -ℤ pos 70)) ≡ difference source receiving background (k t)
    sum_held = plus_held 3000 256 (held (held source -ℤ held level)) (held (to_z w32 r -ℤ pos 70)) (source -ℤ fl) (k t) (omega arith) levels_held (step_held r t e) levels_within (k_within r t e)

-- what `differed` adds up
pub ruleset sum_laws = (step_small, step_fits, sum_held)
