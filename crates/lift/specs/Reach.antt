-- Document 01, "The lift list": what a set of bands reaches, and which sets are listed. A band set is here the function x from
-- a band's place to its value in tenths; a target is in whole decibels.
use Rattle.std.specs.Prelude.{Bool, true, false, not, cond, ◌&&◌, List, ℕ, ◌<◌, T, ℤ}
use Rattle.std.specs.Int.Signed.{le_z, lt_z}
use Rattle.laws.specs.Tests.{all_to, bit}
use Rattle.kinds.specs.declared.kinds.Kind.{Kind}
use Rattle.kinds.specs.Kinds.{airborne, bands_of}
use Rattle.rating.specs.Curve.{rating_of}
use Rattle.sets.specs.Masks.{is_mask, smaller, masks_in_order, filter}
use Rattle.sets.specs.Highest.{highest}

-- "A target is better if greater than the rating (airborne) or less (impact)."
abbrev pub better_by : Bool → ℤ → ℤ → Bool
better_by true target rating = lt_z rating target
better_by false target rating = lt_z target rating

-- "the rating is the target or better"
abbrev pub meets_by : Bool → ℤ → ℤ → Bool
meets_by true target rating = le_z target rating
meets_by false target rating = le_z rating target

-- "those bands replaced by 1500 (impact: -200) and the rest kept"
unfoldable pub lifted : Kind → (ℕ → ℤ) → ℕ → ℕ → ℤ
lifted k x m i = cond (bit m i) (highest (airborne k)) (x i)

-- "A set of 1 to 3 bands reaches it if, those bands replaced by 1500 (impact: -200) and the rest kept, the rating is the
-- target or better."
unfoldable pub reaches : Kind → (ℕ → ℤ) → ℤ → ℕ → Bool
reaches k x target m = meets_by (airborne k) target (rating_of k (lifted k x m))

-- "Listed: each reaching set of which no smaller non-empty part reaches."  Each part is a 16-bit number
unfoldable pub listed_mask : Kind → (ℕ → ℤ) → ℤ → ℕ → Bool
listed_mask k x target m = reaches k x target m && all_to (λ p. not (smaller p m && reaches k x target p)) 65536

-- the lift list
unfoldable pub lift_list : Kind → (ℕ → ℤ) → ℤ → List ℕ
lift_list k x target = filter (listed_mask k x target) (masks_in_order (bands_of k))

-- the same in words, for the theorem that the list holds these sets and no others
pub record Listed (k : Kind) (x : ℕ → ℤ) (target : ℤ) (m : ℕ) : Type 0 where
  pub bands : T (is_mask (bands_of k) m)
  pub reaching : T (reaches k x target m)
  pub least : (p : ℕ) → p < 65536 → T (smaller p m) → T (reaches k x target p) → ⊥
