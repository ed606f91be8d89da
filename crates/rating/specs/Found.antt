-- What the code finds by the numbers of a kind: a position, a weighing, the rating and its terms. Nothing here is part of what a
-- caller must believe: `proofs/Bridge.antt` shows that it says the same as the definitions over ℤ.
use Rattle.std.specs.Prelude.{Bool, true, false, ◌≡◌, ℕ, ◌+◌, ◌*◌, ℤ, pos, ◌-ℤ◌}
use Rattle.quantity.specs.declared.quantities.BandSet.{BandSet}
use Rattle.energy.specs.Energies.{u}
use Rattle.curve.specs.Levels.{least_of, energies_of, Settled, level_at, start_at}
use Rattle.kinds.specs.declared.kinds.Kind.{Kind}
use Rattle.kinds.specs.Kinds.{airborne, bands_of, limit_of}
use Rattle.kinds.specs.Numbers.{entries_of, start_add}

-- what the search finds by the levels of a kind's bands, from the start that the kind tunes; and what it finds of a set
abbrev pub SoughtBy : Kind → (ℕ → ℕ) → ℕ → ℕ → ℕ → ℕ → Type 0
SoughtBy k f n limit p shifts = Settled f n limit (start_at f n (start_add k)) p shifts

abbrev pub Sought : Kind → BandSet → ℕ → ℕ → Type 0
Sought k s p shifts = SoughtBy k (level_at (airborne k) s (entries_of k)) (bands_of k) (limit_of k) p shifts

-- the least level of a set and the sum of the energies above it
pub record WeighedOf (f : ℕ → ℕ) (n least sum : ℕ) : Type 0 where
  pub least-is : least ≡ least_of f n
  pub sum_is : sum ≡ energies_of f n (least_of f n)

-- the rating at a position, and a term in tenths there
abbrev pub rating_by : Bool → ℕ → ℕ → ℤ
rating_by true origin p = pos p -ℤ pos origin
rating_by false origin p = pos origin -ℤ pos p

abbrev pub term_by : Bool → ℕ → ℕ → ℕ → ℕ → ℤ
term_by true origin least step p = pos (least + 10 * origin) -ℤ pos (200 + step + 10 * p)
term_by false origin least step p = pos (1350 + step + 10 * p) -ℤ pos (least + 10 * origin)

abbrev pub term_of : Bool → ℕ → (ℕ → ℕ) → ℕ → ℕ → ℤ
term_of sign origin g n p = term_by sign origin (least_of g n) (u (energies_of g n (least_of g n))) p
