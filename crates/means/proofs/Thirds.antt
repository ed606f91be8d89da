-- Sets of means: what the loop has made so far, and that the readings that it is made of are in range. Assumes nothing.
use mathlib.Core.Path.{◌≡◌, refl, sym, ◌∙◌, ap}
use mathlib.Core.Bool.{true}
use mathlib.Core.List.{List}
use Prim.Native.Nat.{ℕ, ◌+◌, ◌<◌}
use native.Mathlib.Omega.{arith}
use lib.IntN.{ℤ}
use lib.ListN.{set, replicate}
use Rattle.laws.specs.Lists.{listed}
use Rattle.quantity.specs.Quantities.{in_range, tenths, nought}
use Rattle.quantity.specs.declared.quantities.Tenths.{Tenths}
use Rattle.quantity.specs.declared.quantities.BandSet.{BandSet}
use Rattle.quantity.specs.declared.quantities.Reading.{Reading}
use Rattle.measurement.specs.declared.lists.Readings.{Readings}
use Rattle.measurement.specs.Lists.{all_of}
use Rattle.measurement.proofs.Runs.{all-taken}
use Rattle.measurement.proofs.Meaning.{value-range}
use Rattle.curve.specs.Bands.{accepted}
use Rattle.curve.proofs.Searched.{band-in}
use Rattle.means.specs.Sets.{marks_to, mean_at, mark_at, means_of, placed}
use Rattle.measurement.proofs.Filling.{filled, filled_more}
use Rattle.means.proofs.Marks.{marks_none, marks_more, marks_fit}
use Rattle.std.specs.Prelude.{Ok}

-- ---- the loop: the first n means
module _ (x : ℕ → ℤ) (step stride : ℕ) where
  third : ℕ → Tenths
  third i = tenths (mean_at x step stride i)

  pub means_to : ℕ → List Tenths
  means_to n = filled third n 16

  pub means_none : means_to 0 ≡ replicate 16 nought
  unfolding means_to listed
  means_none = refl

  pub means_more : (n : ℕ) (v : Tenths) → n < 16 → v.0 ≡ mean_at x step stride n → set (means_to n) n v ≡ means_to (n + 1)
  unfolding means_to third
  means_more n v h e = ap (λ (t : Tenths). set (means_to n) n t) (ap tenths e) ∙ filled_more third n 16 h

  pub means_all : (marks n : ℕ)
      → means_of x marks n step stride ≡ record { values = means_to n; marks = marks_to (mark_at marks step stride) n; len = n }
  unfolding means_of means_to third
  means_all marks n = refl

pub ruleset turns = (means_none, means_more, means_all, marks_none, marks_more, marks_fit)

-- ---- the values that were taken are band values
pub taken_values : (readings : List Reading) (all : Readings) → Ok all ≡ all_of readings 48 → (i : ℕ) → i < 48 → in_range (placed all.values i) ≡ true
taken_values readings all e i h =
    let w = all-taken readings 48 all (sym e) in
    ap (λ (l : List Tenths). in_range (placed l i)) w.values ∙ value-range readings 48 48 i w.accepted h (omega arith)

-- and so are the bands of an accepted set
pub bands_in : (s : BandSet) → accepted s 16 ≡ true → (i : ℕ) → i < 16 → in_range (placed s.values i) ≡ true
bands_in s e i h = band-in s 16 e i h
