-- Levels: naturals in which both signs are one theory. A better band has a greater level, a stricter position a greater p;
-- the deficit at p is 10 p less the level, where that is above 0. Nothing here is part of what a caller must believe:
-- `Bridge` of crate `rating` shows that it says the same as the definitions over ℤ.
use Rattle.std.specs.Prelude.{Bool, true, false, List, ◌≡◌, ◌⊎◌, ℕ, zero, suc, ◌+◌, ◌*◌, ◌-◌, ◌/◌, ◌≤◌, ◌<◌, min, ℤ, pos, ◌+ℤ◌, ◌-ℤ◌, length, get_or}
use Rattle.laws.specs.Parts.{P, N}
use Rattle.laws.specs.Sums.{sum_to}
use Rattle.quantity.specs.Quantities.{in_range, nought, band_of}
use Rattle.quantity.specs.declared.quantities.Tenths.{Tenths}
use Rattle.quantity.specs.declared.quantities.BandSet.{BandSet}
use Rattle.energy.specs.Energies.{F}

-- the level of a value x above its entry
unfoldable pub level_by : Bool → ℤ → ℕ → ℕ
level_by true x entry = P (x +ℤ pos entry)
level_by false x entry = P (pos entry -ℤ x)

-- what a step from a signed number to a natural asks
abbrev pub Countable : Bool → ℤ → ℕ → Type 0
Countable true z origin = (N z ≤ origin) × (P z + origin < 2147483648)
Countable false z origin = (P z ≤ origin) × (N z + origin < 2147483648)

-- an entry from which no value of a band is counted below 0
abbrev pub bottom : Bool → ℕ
bottom true = 200
bottom false = 1500

pub record Entries (sign : Bool) (entry : ℕ) : Type 0 where
  pub low : bottom sign ≤ entry
  pub high : entry ≤ 3000

-- value i of those lent, as a plain number
abbrev pub plain_at : List Tenths → ℕ → ℤ
plain_at values i = (get_or values i nought).0

-- the first n of them are in range
abbrev pub Ranged : List Tenths → ℕ → Type 0
Ranged values n = (i : ℕ) → i < n → in_range (plain_at values i) ≡ true

-- the levels of the first n values
pub record Levels (sign : Bool) (value : ℕ → ℤ) (entries : List ℕ) (n : ℕ) (levels : List ℕ) : Type 0 where
  pub whole : length levels ≡ 16
  pub each : (i : ℕ) → i < n → get_or levels i 0 ≡ level_by sign (value i) (get_or entries i 0)

abbrev pub at : List ℕ → ℕ → ℕ
at levels i = get_or levels i 0

-- the total of the deficits of n levels at position p
unfoldable pub total_at : (ℕ → ℕ) → ℕ → ℕ → ℕ
total_at f n p = sum_to (λ i. 10 * p - f i) n

unfoldable pub min_to : (ℕ → ℕ) → ℕ → ℕ
min_to f zero = f 0
min_to f (suc n) = min (min_to f n) (f (suc n))

-- the least of n levels, and the sum of their energies above m
unfoldable pub least_of : (ℕ → ℕ) → ℕ → ℕ
least_of f n = min_to f (n - 1)

unfoldable pub energies_of : (ℕ → ℕ) → ℕ → ℕ → ℕ
energies_of f n m = sum_to (λ i. F (f i - m)) n

-- the search from a start: it ends at the first position within the limit, and counts how far it came
pub record Settled (f : ℕ → ℕ) (n limit start p shifts : ℕ) : Type 0 where
  pub distance : p + shifts ≡ start
  pub fits : total_at f n p ≤ limit
  pub over : (s : ℕ) → s < shifts → limit < total_at f n (start - s)

-- a set's levels, by the entries given
abbrev pub level_at : Bool → BandSet → List ℕ → ℕ → ℕ
level_at sign s entries i = level_by sign (band_of s i) (at entries i)

-- thirds or octaves
abbrev pub Count : ℕ → Type 0
Count n = (n ≡ 16) ⊎ (n ≡ 5)

-- where the search starts: the sum of the levels and what is added to it, over ten for each band
abbrev pub start_at : (ℕ → ℕ) → ℕ → ℕ → ℕ
start_at f n add = (sum_to f n + add) / (10 * n)
