-- The mean of three lies between the least and the greatest of them. With D the greatest less the least, each energy is at
-- least F(D), and three times F(D) no longer counts at D + 1: a computed test for D up to 48, past which v never goes.
-- Assumes nothing.
use mathlib.Core.Bool.{Bool, true, false, cond}
use Prim.Native.Nat.{ℕ, suc, ◌*◌, ◌-◌, ◌^◌, ◌≤◌, ◌<◌, max}
use native.Mathlib.Nat.{mul-le-mul_left, le_trans, lt_of_lt_of_le, not-le_of_lt}
use native.Mathlib.Decide.{dec_le}
use native.Mathlib.Omega.{arith}
use mathlib.Core.Path.{subst}
use lib.Dec.{T, ltb, leb→le, ltb→lt, lt→ltb}
use lib.ListN.{get_or}
use Rattle.laws.proofs.Table.{every, at}
use Rattle.energy.specs.Energies.{F}
use Rattle.energy.specs.Means.{v, mean_rule, least₃, sum₃, mean₃}
use Rattle.energy.proofs.Powers.{ten-up}
use Rattle.energy.proofs.Scaled.{F-greatest, entry-is}
use Rattle.energy.proofs.Lists.{energies}
use Rattle.energy.proofs.Weights.{weight, up-sum, up-place}
use Rattle.energy.proofs.Threes.{whole, v-greatest, v-most, sum-bounds}

-- what lies further down has no more energy
pub F-falls : {d e : ℕ} → d ≤ e → F e ≤ F d
F-falls {d} {e} h = (F-greatest d).best (F e) (le_trans (mul-le-mul_left (F e ^ 100) (ten-up h)) (F-greatest e).holds)

-- at D below 49, three times the entry no longer counts at D + 1
spent : ℕ → ℕ → Bool
spent D x = cond (ltb D 49) (ltb whole (weight (3 * x) (suc D))) true

checked : T (every spent 0 energies)
unfolding spent energies
checked = tt

over : (D : ℕ) → D < 49 → whole < weight (3 * F D) (suc D)
unfolding energies spent
over D h =
    subst (λ (n : ℕ). whole < weight (3 * n) (suc D)) (entry-is D (omega arith))
    (ltb→lt whole (weight (3 * get_or energies D 0) (suc D))
    (first (ltb D 49) (ltb whole (weight (3 * get_or energies D 0) (suc D))) (lt→ltb D 49 h) (at spent energies checked D (omega arith))))
  where
    first : (a b : Bool) → T a → T (cond a b true) → T b
    first true b t h = h
    first false b t h = absurd t

abbrev pub greatest₃ : ℕ → ℕ → ℕ → ℕ
greatest₃ x y z = max x (max y z)

abbrev spread : ℕ → ℕ → ℕ → ℕ
spread x y z = greatest₃ x y z - least₃ x y z

sum-least : (x y z : ℕ) → 3 * F (spread x y z) ≤ sum₃ x y z
sum-least x y z = let m : ℕ = least₃ x y z in
    omega (
      arith,
      F-falls {d = x - m} {e = spread x y z} (omega arith),
      F-falls {d = y - m} {e = spread x y z} (omega arith),
      F-falls {d = z - m} {e = spread x y z} (omega arith),
    )

v-spread : (x y z : ℕ) → v (sum₃ x y z) ≤ spread x y z
unfolding mean_rule
v-spread x y z = go (dec_le (v S) D)
  where
    S : ℕ
    S = sum₃ x y z

    D : ℕ
    D = spread x y z

    go : Dec (v S ≤ D) → v S ≤ D
    go (yes h) = h
    go (no h) =
        absurd (not-le_of_lt
        (lt_of_lt_of_le (over D (omega (arith, v-most S (sum-bounds x y z).0 (sum-bounds x y z).1)))
        (le_trans (up-sum (3 * F D) S (suc D) (sum-least x y z)) (up-place S (suc D) (v S) (omega arith))))
        (leb→le (weight S (v S)) whole (v-greatest S (sum-bounds x y z).0 (sum-bounds x y z).1).holds))

pub mean-between : (x y z : ℕ) → (least₃ x y z ≤ mean₃ x y z) × (mean₃ x y z ≤ greatest₃ x y z)
unfolding mean₃
mean-between x y z = (omega arith, omega (arith, v-spread x y z))
