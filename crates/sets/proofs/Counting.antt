-- Lifted values, and the gains as the loop over the bands writes them. Assumes nothing.
use mathlib.Core.Path.{◌≡◌, refl, ◌∙◌, subst}
use mathlib.Core.Bool.{Bool, true, false}
use mathlib.Core.List.{List}
use Prim.Native.Nat.{ℕ, ◌+◌, ◌≤◌, ◌<◌}
use native.Mathlib.Nat.{lt_irrefl}
use native.Mathlib.Decide.{dec_lt}
use native.Mathlib.Omega.{arith}
use lib.IntN.{ℤ, pos, negsuc}
use lib.ListN.{get_or, set, replicate, get_or-replicate, get_or-eq_default}
use lib.Seq.{get_or-set_other}
use Rattle.quantity.specs.Quantities.{in_range}
use Rattle.curve.specs.Levels.{level_by, Entries}
use Rattle.curve.proofs.Counted.{Counted, counted, level-parts}
use Rattle.sets.specs.Highest.{highest}

-- ---- the lifted value
pub best-in : (sign : Bool) → in_range (highest sign) ≡ true
unfolding in_range
best-in true = refl
best-in false = refl

-- no band value has a greater level
pub best-most : (sign : Bool) (x : ℤ) (e : ℕ) → in_range x ≡ true → Entries sign e → level_by sign x e ≤ level_by sign (highest sign) e
best-most true x e r h =
    let c : Counted true x e = counted true x e r h in
    omega (arith, level-parts true x e c, level-parts true (pos 1500) e (counted true (pos 1500) e (best-in true) h))
best-most false x e r h =
    let c : Counted false x e = counted false x e r h in
    omega (arith, level-parts false x e c, level-parts false (negsuc 199) e (counted false (negsuc 199) e (best-in false) h))

-- ---- the places past the bands
pub zeros : (j : ℕ) → ◌≡◌ {A = ℕ} (get_or (replicate 16 0) j 0) 0
zeros j = go (dec_lt j 16)
  where
    go : Dec (j < 16) → ◌≡◌ {A = ℕ} (get_or (replicate 16 0) j 0) 0
    go (yes p) = get_or-replicate 16 j 0 0 p
    go (no p) = get_or-eq_default (replicate 16 0) 0 {n = j} (omega arith)

pub put_rest : (out : List ℕ) (i v : ℕ) → ((j : ℕ) → i ≤ j → get_or out j 0 ≡ 0) → (j : ℕ) → i + 1 ≤ j → get_or (set out i v) j 0 ≡ 0
put_rest out i v before j h =
    get_or-set_other out i j v 0 (λ q. lt_irrefl i (subst (λ (n : ℕ). i < n) q (omega arith))) ∙ before j (omega arith)
