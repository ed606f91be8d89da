-- Inside the lift list: what lifting a band takes off the total of deficits at the target, and the listing by these gains.
-- Nothing here is part of what a caller must believe: the proofs of crate `lift` show that it says the same as the definitions
-- of its `Reach`.
use Rattle.std.specs.Prelude.{Bool, cond, ◌&&◌, List, map, ◌≡◌, ℕ, zero, suc, ◌+◌, ◌*◌, ◌-◌, ◌^◌, ◌≤◌, ◌<◌, min, leb, ltb, ℤ, ◌+ℤ◌}
use Rattle.laws.specs.Sums.{sum_to}
use Rattle.quantity.specs.declared.quantities.BandSet.{BandSet}
use Rattle.laws.specs.Tests.{bit}
use Rattle.curve.specs.Levels.{at, level_by, level_at, total_at}
use Rattle.kinds.specs.declared.kinds.Kind.{Kind}
use Rattle.kinds.specs.Kinds.{airborne, reference_of}
use Rattle.rating.specs.Curve.{deficit, taken_off}
use Rattle.sets.specs.Masks.{choose, masks_in_order, filter}
use Rattle.sets.specs.Highest.{highest}

-- the curve position that rates the target
abbrev pub target_at : Kind → ℤ → ℤ
target_at k target = target +ℤ taken_off k

-- the deficit of a value at band i
abbrev pub lacking : Kind → ℤ → ℕ → ℤ → ℕ
lacking k p i x = deficit k p (reference_of k i) x

-- what the total loses where band i is lifted: not all of its deficit, since 150.0 dB may still fall short of the curve
unfoldable pub gain : Kind → (ℕ → ℤ) → ℤ → ℕ → ℕ
gain k x p i = lacking k p i (x i) - lacking k p i (highest (airborne k))

-- the gains of a set of bands, and the least of them (10000 where the set is empty)
unfoldable pub gains_of : (ℕ → ℕ) → ℕ → ℕ → ℕ
gains_of g m n = sum_to (λ i. cond (bit m i) (g i) 0) n

unfoldable pub least_of : (ℕ → ℕ) → ℕ → ℕ → ℕ
least_of g m zero = 10000
least_of g m (suc n) = cond (bit m n) (min (least_of g m n) (g n)) (least_of g m n)

-- the gains make up what is needed, and without the least of them they do not
unfoldable pub listed_by : (ℕ → ℕ) → ℕ → ℕ → Bool
listed_by g need m = leb need (gains_of g m 16) && ltb (gains_of g m 16) (need + least_of g m 16)

-- the list of n bands, by gains
unfoldable pub by_gains : (ℕ → ℕ) → ℕ → ℕ → List ℕ
by_gains g need n = filter (listed_by g need) (masks_in_order n)

-- the listed sets that are a set of lower bands and so many more of the n bands, from band i on
unfoldable pub joined_by : (ℕ → ℕ) → ℕ → ℕ → ℕ → ℕ → ℕ → List ℕ
joined_by g need n more m i = filter (listed_by g need) (map (λ (r : ℕ). m + r) (choose more (n - i) i))

-- a set of bands below band i, the sum of their gains and the least of them
pub record PartOf (g : ℕ → ℕ) (m sum least i : ℕ) : Type 0 where
  pub lower : m < 2 ^ i
  pub summed : sum ≡ gains_of g m 16
  pub smallest : least ≡ least_of g m 16

-- the gains and the need of at most 16 bands, and how large they are
pub record Bounded (gains : List ℕ) (n need : ℕ) : Type 0 where
  pub bands : n ≤ 16
  pub needed : need < 1000000
  pub small : (i : ℕ) → at gains i < 10000

-- the gain of band i at position p, by the entries of a kind
abbrev pub gain_at : Bool → BandSet → List ℕ → ℕ → ℕ → ℕ
gain_at sign s entries p i = (10 * p - level_at sign s entries i) - (10 * p - level_by sign (highest sign) (at entries i))

-- the gains of n bands at position p, in 16 places, and the total of the deficits there
pub record Gained (sign : Bool) (s : BandSet) (entries : List ℕ) (n p : ℕ) (gains : List ℕ) (sum : ℕ) : Type 0 where
  pub each : (i : ℕ) → i < n → at gains i ≡ gain_at sign s entries p i
  pub rest : (i : ℕ) → n ≤ i → at gains i ≡ 0
  pub all : sum ≡ total_at (level_at sign s entries) n p
