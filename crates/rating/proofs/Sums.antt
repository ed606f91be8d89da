-- The sums of energies lie where u is the paper's number: the least (the greatest) is among the values, so that one energy is
-- whole, and none is more. Assumes nothing.
use mathlib.Core.Path.{◌≡◌, refl, ap}
use mathlib.Core.Bool.{Bool, true, false, cond}
use Prim.Native.Nat.{ℕ, zero, suc, ◌-◌, ◌≤◌, ◌<◌}
use native.Mathlib.Nat.{le_refl}
use native.Mathlib.Omega.{arith}
use lib.Dec.{leb}
use lib.IntN.{ℤ, ◌-ℤ◌}
use lib.Signed.{le_z}
use Rattle.laws.specs.Parts.{P}
use Rattle.laws.specs.Extremes.{Number}
use Rattle.laws.specs.Sums.{sum_to}
use Rattle.laws.proofs.Ints.{minus, apart, eq-read}
use Rattle.laws.proofs.Sums.{sum-term, sum_bound}
use Rattle.energy.specs.Energies.{F, u, Summed}
use Rattle.energy.proofs.Scaled.{F-first, F-most}
use Rattle.energy.proofs.Bounds.{H, u-by-H}
use Rattle.curve.proofs.Searched.{count_most, count-some}
use Rattle.kinds.specs.declared.kinds.Kind.{Kind}
use Rattle.kinds.specs.Kinds.{bands_of}
use Rattle.kinds.proofs.Facts.{count-of}
use Rattle.rating.specs.Terms.{least_to, greatest_to, less, least_energies, greatest_energies}

-- the least of f 0 to f n, and the greatest, is one of them
least-met : (f : ℕ → ℤ) (n : ℕ) → (i : ℕ) × (i ≤ n) × (f i ≡ least_to f n)
unfolding least_to
least-met f zero = (0, omega arith, refl)
least-met f (suc n) = go (least-met f n) (le_z (least_to f n) (f (suc n)))
  where
    go : (i : ℕ) × (i ≤ n) × (f i ≡ least_to f n) → (t : Bool) → (i : ℕ) × (i ≤ suc n) × (f i ≡ cond t (least_to f n) (f (suc n)))
    go r true = (r.0, omega arith, r.2)
    go r false = (suc n, le_refl (suc n), refl)

greatest-met : (f : ℕ → ℤ) (n : ℕ) → (i : ℕ) × (i ≤ n) × (f i ≡ greatest_to f n)
unfolding greatest_to
greatest-met f zero = (0, omega arith, refl)
greatest-met f (suc n) = go (greatest-met f n) (le_z (greatest_to f n) (f (suc n)))
  where
    go : (i : ℕ) × (i ≤ n) × (f i ≡ greatest_to f n) → (t : Bool) → (i : ℕ) × (i ≤ suc n) × (f i ≡ cond t (f (suc n)) (greatest_to f n))
    go r true = (suc n, le_refl (suc n), refl)
    go r false = (r.0, omega arith, r.2)

-- up to sixteen energies, one of them whole
whole-among : (d : ℕ → ℕ) (n i : ℕ) → n ≤ 16 → i < n → d i ≡ 0 → Summed (sum_to (λ j. F (d j)) n)
whole-among d n i h q e = (
  omega (arith, sum-term (λ j. F (d j)) n i q, ap F e, F-first),
  omega (arith, sum_bound (λ j. F (d j)) 1000000000 n (λ j p. F-most (d j))),
)

pub least-summed : (a : ℕ → ℤ) (n : ℕ) → 1 ≤ n → n ≤ 16 → Summed (least_energies a n)
least-summed a n some most =
    let r = least-met a (n - 1) in
    let m : ℤ = least_to a (n - 1) in
    whole-among (λ i. P (a i -ℤ m)) n r.0 most (omega (arith, r.1))
    (omega (arith, minus (a r.0) m, apart (a r.0 -ℤ m), eq-read r.2))

pub greatest-summed : (x : ℕ → ℤ) (n : ℕ) → 1 ≤ n → n ≤ 16 → Summed (greatest_energies x n)
greatest-summed x n some most =
    let r = greatest-met x (n - 1) in
    let m : ℤ = greatest_to x (n - 1) in
    whole-among (λ i. P (m -ℤ x i)) n r.0 most (omega (arith, r.1))
    (omega (arith, minus m (x r.0), apart (m -ℤ x r.0), eq-read r.2))

-- "S the sum of F(a - m), u the number of j >= 1 with H(j) <= S": of all j, in each airborne term
pub airborne-number : (k : Kind) (x L : ℕ → ℤ) → let S = least_energies (less x L) (bands_of k) in Number (λ j. leb (H j) S) (u S)
airborne-number k x L =
    let w = least-summed (less x L) (bands_of k) (count-some (count-of k)) (count_most (count-of k)) in u-by-H _ w.0 w.1

-- "S the sum of F(M - x) over all bands of the kind, u as before": in each impact term
pub impact-number : (k : Kind) (x : ℕ → ℤ) → let S = greatest_energies x (bands_of k) in Number (λ j. leb (H j) S) (u S)
impact-number k x =
    let w = greatest-summed x (bands_of k) (count-some (count-of k)) (count_most (count-of k)) in u-by-H _ w.0 w.1
