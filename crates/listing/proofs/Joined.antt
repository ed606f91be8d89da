-- A set and one band more, as the code puts them together: the shift does not wrap, the set stays a word, and the sets that
-- start with it are the next piece of the list. Assumes nothing.
use Rattle.laws.proofs.Bits.{one_bit}
use mathlib.Core.Path.{◌≡◌, ap}
use mathlib.Core.List.{◌++◌}
use Prim.Native.Nat.{ℕ, ◌+◌, ◌*◌, ◌%◌, ◌^◌, ◌≤◌, ◌<◌, min}
use Rattle.sets.specs.Gains.{joined_by, PartOf}
use Rattle.sets.proofs.Joining.{part-joined, joined_step}

pub mask_is : (m i : ℕ) → i < 16 → m + 1 * 2 ^ i % 65536 ≡ m + 2 ^ i
mask_is m i h = ap (λ (b : ℕ). m + b) (one_bit 16 i h)

-- the set put together, by what `joined` tells of it
module _ (g : ℕ → ℕ) (m i r from : ℕ) (mask : r ≡ m + 2 ^ i) (next : from ≡ i + 1) where
  pub longer-part : (s l j sum least : ℕ) → PartOf g m s l j → j ≤ i → i < 16 → sum ≡ s + g i → least ≡ min l (g i) → PartOf g r sum least from
  longer-part s l j sum least w k h a b = rw (mask, next, a, b) (part-joined g m s l j w i k h)

  pub longer-piece : (need n more : ℕ) → i < n → joined_by g need n (more + 1) m i ≡ joined_by g need n more r from ++ joined_by g need n (more + 1) m (i + 1)
  longer-piece need n more h = rw (mask, next) (joined_step g need n more m i h)
