-- What is asked of the tables of ratings where they are lent, for one set or for many: F, and what the thresholds and the starts
-- tell of u. The shape of the tables stands here and in the code of this crate, and nowhere above it.
use Rattle.std.specs.Prelude.{Bool, true, false, cond, List, ◌≡◌, ℕ, ◌+◌, ◌*◌, ◌-◌, ◌/◌, ◌%◌, ◌^◌, ◌≤◌, ◌<◌, ltb, length, get_or}
use Rattle.energy.specs.Energies.{F, u, Summed}
use Rattle.energy.specs.Means.{v}

-- the first n numbers of F stand first
abbrev pub Powers : ℕ → List ℕ → Type 0
Powers n table = (d : ℕ) → d < n → get_or table d 0 ≡ F d

-- for many sets F stands whole, for one its first hundred numbers do; what follows F stands behind either
abbrev pub reach : Bool → ℕ
reach true = 901
reach false = 100

pub record Scaled (many : Bool) (table : List ℕ) : Type 0 where
  pub long : reach many ≤ length table
  pub each : Powers (reach many) table

-- n times this, over 2 ^ (33 + 3 k), is n over 10 ^ k
unfoldable pub inverse_of : ℕ → ℕ
inverse_of k = 2 ^ (33 + 3 * k) / 10 ^ k + 1

-- whether a threshold with these low 32 bits lies above a sum, as a number
unfoldable pub missed_by : ℕ → ℕ → ℕ
missed_by S low = (S + 4294967296 - low) / 2147483648 % 2

abbrev pub missed_at : ℕ → List ℕ → ℕ → ℕ
missed_at S table i = missed_by S (get_or table i 0)

-- the stretch of a sum: 2 ^ 26 long up to 2 ^ 32, and 2 ^ 28 from there on
unfoldable pub stretch_of : ℕ → ℕ
stretch_of S = cond (ltb S 4294967296) (S / 67108864 - 14) (S / 268435456 + 34)

-- the start of a sum's stretch
abbrev pub start_in : Bool → List ℕ → ℕ → ℕ
start_in many table S = get_or table (reach many + 123 + stretch_of S) 0

-- behind F stand H(1) to H(123) by their low 32 bits, then u at the start of each stretch: within a stretch u grows by three at
-- most, and the bits tell of the next three thresholds whether u goes past them
pub record Stepped (many : Bool) (table : List ℕ) : Type 0 where
  pub long : reach many + 217 ≤ length table
  pub fits : (S : ℕ) → Summed S → start_in many table S ≤ 120
  pub least : (S : ℕ) → Summed S → start_in many table S ≤ u S
  pub most : (S : ℕ) → Summed S → u S ≤ start_in many table S + 3
  pub passed : (S i : ℕ) → Summed S → i < 3 → start_in many table S + i < u S
      → missed_at S table (reach many + start_in many table S + i) ≡ 0
  pub missed : (S i : ℕ) → Summed S → i < 3 → u S ≤ start_in many table S + i
      → missed_at S table (reach many + start_in many table S + i) ≡ 1

-- for means, behind the first hundred numbers of F: G(48) to G(1), two numbers that no sum of three goes past, and how many of
-- these lie below the start of each stretch of 2 ^ 25. None holds more than two
abbrev pub turn_in : List ℕ → ℕ → ℕ
turn_in table S = get_or table (150 + ((S - 1) / 33554432 - 29)) 0

abbrev pub Summed₃ : ℕ → Type 0
Summed₃ S = (1000000000 ≤ S) × (S ≤ 3000000000)

-- the bits tell of the next two thresholds whether a sum less one misses them: v is 46 and as many as it misses, less those
-- below its stretch
pub record MeanTabled (table : List ℕ) : Type 0 where
  pub scaled : Scaled false table
  pub long : 211 ≤ length table
  pub fits : (S : ℕ) → Summed₃ S → turn_in table S ≤ 48
  pub counted : (S : ℕ) → Summed₃ S
      → v S + turn_in table S ≡ 46 + missed_at (S - 1) table (100 + turn_in table S) + missed_at (S - 1) table (101 + turn_in table S)

pub record Tabled (many : Bool) (table : List ℕ) : Type 0 where
  pub scaled : Scaled many table
  pub stepped : Stepped many table
