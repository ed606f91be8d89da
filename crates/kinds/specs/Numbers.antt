-- The numbers of a kind as naturals, by which one theory of levels serves both signs. Nothing here is part of what a caller
-- must believe: `proofs/Bridge.antt` of crate `rating` shows that what is found by them is what the definitions over ℤ say.
use Rattle.std.specs.Prelude.{Bool, true, false, List, ℕ, ◌<◌, ℤ, pos, ◌+ℤ◌, ◌-ℤ◌, ◌*ℤ◌}
use Rattle.laws.specs.Parts.{P}
use Rattle.laws.specs.Lists.{listed}
use Rattle.curve.specs.Levels.{Entries, at, Count}
use Rattle.kinds.specs.declared.kinds.Kind.{Kind}
use Rattle.kinds.specs.declared.kinds.Kind.TheVariants.{A3, A1, I3, I1}
use Rattle.kinds.specs.declared.kinds.Numbers.{Numbers}
use Rattle.kinds.specs.Kinds.{airborne, bands_of, limit_of, reference_of, C, Ctr}

-- what a band's value is counted from, for the reference curve and for the two spectra
abbrev pub entry_by : Bool → ℤ → ℕ
entry_by true K = P (pos 240 -ℤ pos 10 *ℤ K)
entry_by false K = P (pos 1680 +ℤ pos 10 *ℤ K)

abbrev pub weight_by : Bool → ℤ → ℕ
weight_by true L = P (pos 200 -ℤ pos 10 *ℤ L)
weight_by false L = 1500

unfoldable pub entries_of : Kind → List ℕ
entries_of k = listed (λ i. entry_by (airborne k) (reference_of k i)) 16 0

unfoldable pub first_of : Kind → List ℕ
first_of k = listed (λ i. weight_by (airborne k) (C k i)) 16 0

unfoldable pub second_of : Kind → List ℕ
second_of k = listed (λ i. weight_by (airborne k) (Ctr k i)) 16 0

-- what is added to the sum of levels before it is divided, for the start
abbrev pub start_add : Kind → ℕ
start_add A3 = 519
start_add A1 = 139
start_add I3 = 1489
start_add I1 = 449

-- the rating is p less this, or for impact this less p
abbrev pub rating_at : Kind → ℕ
rating_at A3 = 24
rating_at A1 = 24
rating_at I3 = 168
rating_at I1 = 163

unfoldable pub numbers_of : Kind → Numbers
numbers_of k = record {
  bands = bands_of k;
  limit = limit_of k;
  origin = record { 0 = rating_at k };
  airborne = airborne k;
  entries = entries_of k;
}

-- numbers that a kind may have: none of its levels is below 0, and all sums stay small
pub record Sound (n : Numbers) : Type 0 where
  pub count : Count n.bands
  pub near : n.origin.0 < 200
  pub entries : (i : ℕ) → i < 16 → Entries n.airborne (at n.entries i)
