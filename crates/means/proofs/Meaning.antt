-- What the definitions mean, in document 01's words: means of band values are band values, so octaves and specimens that were
-- accepted are always rated; bit j of their marks is the mark of their three values. Assumes nothing.
use mathlib.Core.Path.{◌≡◌, refl, ◌∙◌, ap}
use mathlib.Core.Bool.{true, cond}
use mathlib.Core.List.{List}
use Prim.Native.Nat.{ℕ, ◌+◌, ◌*◌, ◌≤◌, ◌<◌}
use native.Mathlib.Omega.{arith}
use borrow.Author.Tests.{lt-ltb, eq-eqb}
use lib.Dec.{ltb}
use lib.IntN.{ℤ}
use Rattle.laws.proofs.Lists.{listed_at}
use Rattle.quantity.specs.Quantities.{in_range, band_of, tenths, nought}
use Rattle.quantity.specs.declared.quantities.Tenths.{Tenths}
use Rattle.quantity.specs.declared.quantities.BandSet.{BandSet}
use Rattle.quantity.specs.declared.quantities.Reading.{Reading}
use Rattle.measurement.specs.declared.lists.Readings.{Readings}
use Rattle.measurement.specs.Lists.{all_of, refusal_in, values_in, marks_in}
use Rattle.curve.specs.Bands.{accepted}
use Rattle.laws.specs.Tests.{bit}
use Rattle.laws.proofs.Ranges.{all_made}
use Rattle.curve.proofs.Searched.{band-in}
use Rattle.kinds.specs.declared.kinds.Kind.TheVariants.{A1}
use Rattle.rating.specs.Sheets.{sheet_of, rated_of}
use Rattle.rating.proofs.RatedLaws.{in_order}
use Rattle.means.specs.Sets.{placed, mean_at, mark_at, means_of, octaves_of, specimens_of}
use Rattle.means.proofs.Averages.{mean-range}
use Rattle.means.proofs.Marks.{marks-bit}
use Rattle.means.proofs.Thirds.{taken_values}
use Rattle.std.specs.Prelude.{Ok, None}

-- ---- sets of means
module _ (x : ℕ → ℤ) (marks n step stride : ℕ) (most : n ≤ 16) where
  -- band j is the mean of its three values
  pub mean-here : (j : ℕ) → j < n → band_of (means_of x marks n step stride) j ≡ mean_at x step stride j
  unfolding means_of
  mean-here j h =
      ap (λ (t : Tenths). t.0) (listed_at nought (λ i. cond (ltb i n) (tenths (mean_at x step stride i)) nought) 16 j (omega arith))
      ∙ rw (lt-ltb j n h)

  -- "An octave or specimen mean is a limit if any of its three values is"
  pub mark-here : (j : ℕ) → j < n → bit (means_of x marks n step stride).marks j ≡ mark_at marks step stride j
  unfolding means_of
  mark-here j h = marks-bit (mark_at marks step stride) n j h

  -- means of band values are band values
  pub means-accepted : (places : ℕ) → ((j : ℕ) → j < n → j * step + 2 * stride < places) → ((i : ℕ) → i < places → in_range (x i) ≡ true)
      → accepted (means_of x marks n step stride) n ≡ true
  unfolding accepted
  means-accepted places room bands = all_made (λ i. in_range (band_of (means_of x marks n step stride) i)) n (λ j h.
      let r = room j h in
      ap in_range (mean-here j h)
      ∙ mean-range (x (j * step)) (x (j * step + stride)) (x (j * step + 2 * stride))
      (bands (j * step) (omega arith)) (bands (j * step + stride) (omega arith)) (bands (j * step + 2 * stride) (omega arith)))

pub len_is : (x : ℕ → ℤ) (marks n step stride : ℕ) → (means_of x marks n step stride).len ≡ n
unfolding means_of
len_is x marks n step stride = refl

-- ---- octaves of an accepted set are accepted, and rated
pub octaves-are : (s : BandSet) → s.len ≡ 16 → accepted s 16 ≡ true → Ok (means_of (band_of s) s.marks 5 3 1) ≡ octaves_of s
unfolding octaves_of
octaves-are s e acc = rw (eq-eqb s.len 16 e, acc)

pub octaves-rated : (s t : BandSet) → s.len ≡ 16 → accepted s 16 ≡ true → Ok t ≡ octaves_of s → Ok (sheet_of A1 t) ≡ rated_of A1 t
octaves-rated s t e acc f =
    let m : t ≡ means_of (band_of s) s.marks 5 3 1 = cc (octaves-are s e acc) in
    rw m
    (in_order A1 (means_of (band_of s) s.marks 5 3 1) 5 (sheet_of A1 (means_of (band_of s) s.marks 5 3 1)) refl (len_is (band_of s) s.marks 5 3 1)
    (means-accepted (band_of s) s.marks 5 3 1 (omega arith) 16 (λ j h. omega arith) (band-in s 16 acc)) refl)

-- ---- the means of 48 readings none of which is refused are accepted: neither 1 nor 4 can come from them
module _ (readings : List Reading) (acc : refusal_in readings 48 ≡ None) where
  abbrev all : Readings
  all = record { values = values_in readings 48 48; marks = marks_in readings 48 }

  abbrev means : BandSet
  means = means_of (placed all.values) all.marks 16 1 16

  taken : Ok all ≡ all_of readings 48
  unfolding all_of
  taken = rw acc

  pub specimens-are : Ok means ≡ specimens_of readings 48
  unfolding specimens_of
  specimens-are = rw (← taken)

  pub specimens-accepted : (t : BandSet) → Ok t ≡ specimens_of readings 48 → accepted t 16 ≡ true
  specimens-accepted t e =
      let m : t ≡ means = cc specimens-are in
      rw m (means-accepted (placed all.values) all.marks 16 1 16 (omega arith) 48 (λ j h. omega arith) (taken_values readings all taken))
