-- A cover: the reference floor and what is derived from it. Assumes nothing.
use mathlib.Core.Path.{◌≡◌, refl, sym, ◌∙◌, ap}
use mathlib.Core.Bool.{Bool, true}
use mathlib.Core.List.{List, [], ◌∷◌}
use Prim.Native.Nat.{ℕ, ◌+◌, ◌≤◌, ◌<◌}
use native.Mathlib.Omega.{arith}
use lib.Dec.{leb, leb→le}
use lib.IntN.{ℤ, pos, ◌-ℤ◌}
use lib.ListN.{get_or, get_or-map, set, replicate}
use mir.Syntax.{w32}
use mir.Val.{SFits}
use Rattle.laws.specs.Parts.{P, N}
use Rattle.laws.specs.Lists.{listed}
use Rattle.laws.proofs.Table.{at}
use Rattle.quantity.specs.Quantities.{in_range, band_of, tenths, nought}
use Rattle.quantity.proofs.Rim.{range-read}
use Rattle.quantity.specs.declared.quantities.Tenths.{Tenths}
use Rattle.quantity.specs.declared.quantities.BandSet.{BandSet}
use Rattle.curve.specs.Bands.{accepted, limited}
use Rattle.curve.proofs.Searched.{band-in}
use Rattle.measurement.proofs.Filling.{filled, filled_more}
use Rattle.kinds.specs.declared.kinds.Kind.TheVariants.{I3}
use Rattle.kinds.specs.declared.kinds.Kind.{Kind}
use Rattle.rating.specs.Bounds.{SmallSheet}
use Rattle.rating.specs.declared.sheets.Sheet.{Sheet}
use Rattle.rating.specs.Sheets.{sheet_of, rated_of}
use Rattle.rating.proofs.Small.{rated-by}
use Rattle.products.specs.Covers.{floor, floor_at, derived_set}
use Rattle.products.proofs.Signed.{bits, difference_fits, difference_is}
use Rattle.std.specs.Prelude.{Ok}

-- the floor lies from 67.0 to 72.0 dB
floors : List ℕ
floors = 670 ∷ 675 ∷ 680 ∷ 685 ∷ 690 ∷ 695 ∷ 700 ∷ 705 ∷ 710 ∷ 715 ∷ 720 ∷ 720 ∷ 720 ∷ 720 ∷ 720 ∷ 720 ∷ []

high : ℕ → ℕ → Bool
high i x = leb x 720

floor_low : (i : ℕ) → i < 16 → (P (floor_at i) ≤ 720) × (N (floor_at i) ≡ 0)
unfolding floors floor high
floor_low i h = rw (get_or-map pos floors i 0) (leb→le (get_or floors i 0) 720 (at high floors tt i h), refl)

-- a derived level, as the code computes it
module _ (i : ℕ) (x : ℤ) (h : i < 16) (r : in_range x ≡ true) where
  pub derived_fits : SFits w32 (bits (floor_at i) -ℤ bits x)
  derived_fits =
      let f = floor_low i h in
      let b = range-read x r in
      difference_fits (floor_at i) x (omega arith) (omega arith)

  pub derived_is : bits (bits (floor_at i) -ℤ bits x) ≡ floor_at i -ℤ x
  derived_is =
      let f = floor_low i h in
      let b = range-read x r in
      difference_is (floor_at i) x (omega arith) (omega arith)

-- the derived levels so far
module _ (s : BandSet) where
  level : ℕ → Tenths
  level i = tenths (floor_at i -ℤ band_of s i)

  pub levels_to : ℕ → List Tenths
  levels_to n = filled level n 16

  pub levels_none : levels_to 0 ≡ replicate 16 nought
  unfolding levels_to listed
  levels_none = refl

  pub levels_more : (n : ℕ) (v : Tenths) → n < 16 → v.0 ≡ floor_at n -ℤ band_of s n → set (levels_to n) n v ≡ levels_to (n + 1)
  unfolding levels_to level
  levels_more n v h e = ap (λ (t : Tenths). set (levels_to n) n t) (ap tenths e) ∙ filled_more level n 16 h

  pub levels_all : derived_set s ≡ record { values = levels_to 16; marks = s.marks; len = 16 }
  unfolding derived_set levels_to level listed
  levels_all = refl

  pub bands_in : (i : ℕ) → i < 16 → accepted s 16 ≡ true → in_range (band_of s i) ≡ true
  bands_in i h e = band-in s 16 e i h

pub ruleset level_laws = (levels_none, levels_more, levels_all, bands_in)

-- the derived set bears the marks of the bands
pub limit_is : (s : BandSet) (sheet : Sheet) → Ok sheet ≡ rated_of I3 (derived_set s) → sheet.limit ≡ limited s 16
unfolding sheet_of limited derived_set
limit_is s sheet e = ap (λ (t : Sheet). t.limit) (rated-by I3 (derived_set s) sheet (sym e)).same

-- a sheet that was given has small numbers
pub given_small : (k : Kind) (s : BandSet) (sheet : Sheet) → Ok sheet ≡ rated_of k s → SmallSheet sheet
given_small k s sheet e = (rated-by k s sheet (sym e)).small
