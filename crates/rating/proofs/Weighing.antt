-- The terms: a least over ℤ and its mirror, a greatest, are one least over the levels; the energies above it are the same
-- ones, and so is the term in tenths. Assumes nothing.
use mathlib.Core.Path.{◌≡◌, ◌∙◌, ap, ap₂}
use mathlib.Core.Bool.{Bool, true, false}
use Prim.Native.Nat.{ℕ, zero, suc, ◌+◌, ◌*◌, ◌-◌, ◌≤◌, ◌<◌}
use native.Mathlib.Nat.{le_refl}
use native.Mathlib.Omega.{arith}
use lib.IntN.{ℤ, pos, ◌+ℤ◌, ◌-ℤ◌, ◌*ℤ◌}
use Rattle.laws.specs.Parts.{P, N}
use Rattle.laws.specs.Sums.{sum_to}
use Rattle.laws.proofs.Extremes.{greatest-below}
use Rattle.laws.proofs.Ints.{plus, minus, apart, times-P, times-N, eq-made}
use Rattle.laws.proofs.Sums.{sum_same}
use Rattle.energy.specs.Energies.{F, u, level_rule}
use Rattle.curve.specs.Levels.{min_to, least_of, energies_of}
use Rattle.curve.proofs.Searched.{least-alike, energies-alike}
use Rattle.curve.proofs.Walks.{min-below}
use Rattle.laws.proofs.Counted.{Up, Down, lesser-up, greater-down, above-up, above_down}
use Rattle.kinds.specs.declared.kinds.Kind.{Kind}
use Rattle.kinds.specs.Kinds.{bands_of}
use Rattle.rating.specs.Curve.{rating_of}
use Rattle.rating.specs.Terms.{least_to, greatest_to, less, weighted, airborne_term, impact_term}
use Rattle.rating.specs.Found.{rating_by, term_by, term_of}

pub u-small : (S : ℕ) → u S < 256
unfolding u
u-small S = greatest-below 8 (level_rule S)

-- levels that are alike have the same term
pub term-alike : (sign : Bool) (o : ℕ) (f g : ℕ → ℕ) (n p : ℕ) → 1 ≤ n → ((i : ℕ) → i < n → f i ≡ g i) → term_of sign o f n p ≡ term_of sign o g n p
term-alike sign o f g n p some h =
    let m : least_of f n ≡ least_of g n = least-alike f g n some h in
    ap₂ (λ (least S : ℕ). term_by sign o least (u S) p) m (ap (energies_of f n) m ∙ energies-alike f g n (least_of g n) h)

least-up : (c : ℕ) (a : ℕ → ℤ) (g : ℕ → ℕ) (n : ℕ) → ((i : ℕ) → i < suc n → Up c (a i) (g i)) → Up c (least_to a n) (min_to g n)
unfolding least_to min_to
least-up c a g zero h = h 0 (omega arith)
least-up c a g (suc n) h =
    lesser-up c (least_to a n) (a (suc n)) (min_to g n) (g (suc n)) (least-up c a g n (λ i q. h i (omega arith))) (h (suc n) (le_refl (suc (suc n))))

greatest-down : (c : ℕ) (a : ℕ → ℤ) (g : ℕ → ℕ) (n : ℕ) → ((i : ℕ) → i < suc n → Down c (a i) (g i)) → Down c (greatest_to a n) (min_to g n)
unfolding greatest_to min_to
greatest-down c a g zero h = h 0 (omega arith)
greatest-down c a g (suc n) h =
    greater-down c (greatest_to a n) (a (suc n)) (min_to g n) (g (suc n)) (greatest-down c a g n (λ i q. h i (omega arith))) (h (suc n) (le_refl (suc (suc n))))

module _ (k : Kind) (x : ℕ → ℤ) (o p : ℕ) (some : 1 ≤ bands_of k) where
  abbrev n : ℕ
  n = bands_of k

  -- the least level, and the tenths that all energies together stand above it
  abbrev low : (ℕ → ℕ) → ℕ
  low g = min_to g (n - 1)

  abbrev step : (ℕ → ℕ) → ℕ
  step g = u (sum_to (λ i. F (g i - low g)) n)

  -- airborne: the levels count x - 10 L from 200
  pub airborne-term : (L : ℕ → ℤ) (g : ℕ → ℕ) → ((i : ℕ) → i < n → Up 200 (less x L i) (g i)) → rating_of k x ≡ rating_by true o p
      → airborne_term k x L ≡ term_of true o g n p
  unfolding airborne_term weighted least_of energies_of
  airborne-term L g h r =
      let a : ℕ → ℤ = less x L in
      let m : ℤ = least_to a (n - 1) in
      let ml : Up 200 m (low g) = least-up 200 a g (n - 1) (λ i q. h i (omega arith)) in
      let S : sum_to (λ i. F (P (a i -ℤ m))) n ≡ sum_to (λ i. F (g i - low g)) n =
      sum_same (λ i. F (P (a i -ℤ m))) (λ i. F (g i - low g)) n
      (λ i q. ap F (above-up 200 (a i) m (g i) (low g) (h i q) ml (min-below g (n - 1) i (omega arith)))) in
      let R : ℤ = pos p -ℤ pos o in
      ap₂ (λ (t : ℕ) (z : ℤ). m -ℤ pos (u t) -ℤ pos 10 *ℤ z) S r
      ∙ eq-made (omega (arith, ml, minus m (pos (step g)), minus (pos p) (pos o), times-P 10 R, times-N 10 R, minus (m -ℤ pos (step g)) (pos 10 *ℤ R), minus (pos (low g + 10 * o)) (pos (200 + step g + 10 * p))))

  -- impact: the levels count down from 1500
  pub impact-term : (g : ℕ → ℕ) → ((i : ℕ) → i < n → Down 1500 (x i) (g i)) → rating_of k x ≡ rating_by false o p
      → impact_term k x ≡ term_of false o g n p
  unfolding impact_term least_of energies_of
  impact-term g h r =
      let m : ℤ = greatest_to x (n - 1) in
      let ml : Down 1500 m (low g) = greatest-down 1500 x g (n - 1) (λ i q. h i (omega arith)) in
      let S : sum_to (λ i. F (P (m -ℤ x i))) n ≡ sum_to (λ i. F (g i - low g)) n =
      sum_same (λ i. F (P (m -ℤ x i))) (λ i. F (g i - low g)) n
      (λ i q. ap F (above_down 1500 (x i) m (g i) (low g) (h i q) ml (min-below g (n - 1) i (omega arith)))) in
      let R : ℤ = pos o -ℤ pos p in
      ap₂ (λ (t : ℕ) (z : ℤ). m +ℤ pos (u t) -ℤ pos 150 -ℤ pos 10 *ℤ z) S r
      ∙ eq-made (omega (arith, ml, plus m (pos (step g)), minus (m +ℤ pos (step g)) (pos 150), minus (pos o) (pos p), times-P 10 R, times-N 10 R, minus (m +ℤ pos (step g) -ℤ pos 150) (pos 10 *ℤ R), minus (pos (1350 + step g + 10 * p)) (pos (low g + 10 * o))))

-- a term stays within 1000 dB
pub term-small : (sign : Bool) (o l v p : ℕ) → o < 200 → l < 5000 → v < 500 → p < 500
    → (P (term_by sign o l v p) ≤ 10000) × (N (term_by sign o l v p) ≤ 10000)
term-small true o l v p a b c d =
    let z : ℤ = pos (l + 10 * o) -ℤ pos (200 + v + 10 * p) in
    (omega (arith, minus (pos (l + 10 * o)) (pos (200 + v + 10 * p)), apart z), omega (arith, minus (pos (l + 10 * o)) (pos (200 + v + 10 * p)), apart z))
term-small false o l v p a b c d =
    let z : ℤ = pos (1350 + v + 10 * p) -ℤ pos (l + 10 * o) in
    (omega (arith, minus (pos (1350 + v + 10 * p)) (pos (l + 10 * o)), apart z), omega (arith, minus (pos (1350 + v + 10 * p)) (pos (l + 10 * o)), apart z))
