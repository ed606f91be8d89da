-- The mean of three over ℤ is the mean of three naturals counted from one floor: so it lies between the least and the greatest
-- of the three, its v is the paper's number, and the mean of band values is a band value. Assumes nothing.
use mathlib.Core.Path.{◌≡◌, sym, ap, ap₂, subst}
use mathlib.Core.Bool.{true}
use Prim.Native.Nat.{ℕ, ◌+◌, ◌-◌, ◌≤◌, min, max}
use native.Mathlib.Omega.{arith}
use lib.Dec.{leb}
use lib.IntN.{ℤ, pos, ◌-ℤ◌}
use lib.Signed.{◌≤ℤ◌}
use Rattle.laws.specs.Parts.{P, N, lesser, greater}
use Rattle.laws.specs.Extremes.{Number}
use Rattle.laws.proofs.Ints.{plus, minus, apart, eq-made, le-made}
use Rattle.quantity.specs.Quantities.{in_range}
use Rattle.quantity.proofs.Rim.{range-read, range-yes}
use Rattle.energy.specs.Energies.{F}
use Rattle.energy.specs.Means.{v, least₃, sum₃, mean₃}
use Rattle.energy.proofs.Between.{greatest₃, mean-between}
use Rattle.energy.proofs.Threes.{sum-bounds}
use Rattle.energy.proofs.Bounds.{G, v-by-G}
use Rattle.laws.proofs.Counted.{Up}
use Rattle.means.specs.Means.{least_of₃, energies_of₃, mean_of₃}
use Rattle.laws.proofs.Counted.{lesser-up, greater-up, above-up}

-- three values and their counts from one floor
pub record Three (c : ℕ) (x y z : ℤ) (a b d : ℕ) : Type 0 where
  pub first : Up c x a
  pub second : Up c y b
  pub third : Up c z d

module _ (c : ℕ) (x y z : ℤ) (a b d : ℕ) (t : Three c x y z a b d) where
  abbrev m : ℤ
  m = least_of₃ x y z

  abbrev l : ℕ
  l = least₃ a b d

  least-up : Up c m l
  least-up = lesser-up c x (lesser y z) a (min b d) t.first (lesser-up c y z b d t.second t.third)

  greatest-up : Up c (greater x (greater y z)) (greatest₃ a b d)
  greatest-up = greater-up c x (greater y z) a (max b d) t.first (greater-up c y z b d t.second t.third)

  energies-up : energies_of₃ m x y z ≡ sum₃ a b d
  energies-up =
      ap₂ ◌+◌ (ap₂ ◌+◌ (ap F (above-up c x m a l t.first least-up (omega arith))) (ap F (above-up c y m b l t.second least-up (omega arith))))
      (ap F (above-up c z m d l t.third least-up (omega arith)))

  pub mean-up : Up c (mean_of₃ x y z) (mean₃ a b d)
  unfolding mean_of₃ mean₃
  mean-up =
      omega (arith, least-up, ap v energies-up, plus m (pos (v (energies_of₃ m x y z))))

  pub mean-is : pos (mean₃ a b d) -ℤ pos c ≡ mean_of₃ x y z
  mean-is = eq-made (omega (arith, mean-up, minus (pos (mean₃ a b d)) (pos c)))

  pub mean-lies : (least_of₃ x y z ≤ℤ mean_of₃ x y z) × (mean_of₃ x y z ≤ℤ greater x (greater y z))
  mean-lies =
      let w = mean-between a b d in
      (le-made (omega (arith, mean-up, least-up, w.0)), le-made (omega (arith, mean-up, greatest-up, w.1)))

-- any three, counted from a floor below them
module _ (x y z : ℤ) where
  abbrev base : ℕ
  base = N x + N y + N z

  abbrev over : ℤ → ℕ
  over w = base - N w + P w

  three : Three base x y z (over x) (over y) (over z)
  three = record { first = omega arith; second = omega arith; third = omega arith }

  -- "The mean is m + v": it lies between the least and the greatest of the three, whatever they are
  pub mean-between-three : (least_of₃ x y z ≤ℤ mean_of₃ x y z) × (mean_of₃ x y z ≤ℤ greater x (greater y z))
  mean-between-three = mean-lies base x y z (over x) (over y) (over z) three

  -- the sum of their energies lies where v is the paper's number
  pub energies-bounds : (1000000000 ≤ energies_of₃ (least_of₃ x y z) x y z) × (energies_of₃ (least_of₃ x y z) x y z ≤ 3000000000)
  energies-bounds =
      subst (λ (S : ℕ). (1000000000 ≤ S) × (S ≤ 3000000000)) (sym (energies-up base x y z (over x) (over y) (over z) three))
      (sum-bounds (over x) (over y) (over z))

  -- "S the sum of F(x - m), v the number of j >= 1 with S <= G(j)": of all j
  pub mean-number : let S = energies_of₃ (least_of₃ x y z) x y z in Number (λ j. leb S (G j)) (v S)
  mean-number = v-by-G (energies_of₃ (least_of₃ x y z) x y z) energies-bounds.0 energies-bounds.1

-- the mean of three band values is a band value
pub mean-counts : (a b d : ℕ) → a ≤ 1700 → b ≤ 1700 → d ≤ 1700 → mean₃ a b d ≤ 1700
mean-counts a b d h k n = omega (arith, (mean-between a b d).1)

pub mean-range : (x y z : ℤ) → in_range x ≡ true → in_range y ≡ true → in_range z ≡ true → in_range (mean_of₃ x y z) ≡ true
mean-range x y z p q r =
    let i = range-read x p in
    let j = range-read y q in
    let k = range-read z r in
    let a : ℕ = 200 - N x + P x in
    let b : ℕ = 200 - N y + P y in
    let d : ℕ = 200 - N z + P z in
    let u = mean-up 200 x y z a b d (record { first = omega arith; second = omega arith; third = omega arith }) in
    let h : mean₃ a b d ≤ 1700 = mean-counts a b d (omega (arith, apart x)) (omega (arith, apart y)) (omega (arith, apart z)) in
    sym (range-yes (mean_of₃ x y z) (omega (arith, apart (mean_of₃ x y z))) (omega (arith, apart (mean_of₃ x y z))))
