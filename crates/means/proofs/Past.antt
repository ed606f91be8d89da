-- What lies past the stated length of a band set, or of a list of specimens' readings, never matters to its means. Assumes
-- nothing.
use mathlib.Core.Path.{◌≡◌, refl, ap, ap₂, subst}
use mathlib.Core.Bool.{Bool, true, false, cond, ◌||◌}
use mathlib.Core.List.{List}
use Prim.Native.Nat.{ℕ, zero, suc, ◌+◌, ◌*◌, ◌<◌}
use native.Mathlib.Nat.{le_refl}
use native.Mathlib.Decide.{dec_lt}
use native.Mathlib.Omega.{arith}
use borrow.Author.Tests.{lt-ltb, le-ltb, eqb-true, ne_eqb}
use lib.Dec.{eqb, ltb}
use lib.IntN.{ℤ, pos}
use Rattle.laws.specs.Lists.{listed}
use Rattle.quantity.specs.Quantities.{band_of, tenths}
use Rattle.quantity.specs.declared.quantities.BandSet.{BandSet}
use Rattle.quantity.specs.declared.quantities.Reading.{Reading}
use Rattle.quantity.specs.declared.refusals.Refusal.TheVariants.{BandCount, SpecimenCount}
use Rattle.measurement.specs.Lists.{weight_of, all_of}
use Rattle.measurement.proofs.Past.{Alike, all_past}
use Rattle.laws.specs.Tests.{bit}
use Rattle.rating.proofs.Theorems.{accepted-same, Stated, past_by}
use Rattle.means.specs.Means.{mean_of₃}
use Rattle.means.specs.Sets.{marks_to, mean_at, mark_at, means_of, octaves_of, specimens_by, specimens_of}
use Rattle.std.specs.Prelude.{Err}

marks-alike : (f g : ℕ → Bool) (n : ℕ) → ((j : ℕ) → j < n → f j ≡ g j) → marks_to f n ≡ marks_to g n
unfolding marks_to
marks-alike f g zero h = refl
marks-alike f g (suc n) h = ap₂ (λ (m : ℕ) (b : Bool). m + weight_of b n) (marks-alike f g n (λ j q. h j (omega arith))) (h n (le_refl (suc n)))

-- n means that are all of the first `places` values
module _ (x y : ℕ → ℤ) (p q n step stride places : ℕ) (room : (j : ℕ) → j < n → j * step + 2 * stride < places)
    (values : (i : ℕ) → i < places → x i ≡ y i) (marks : (i : ℕ) → i < places → bit p i ≡ bit q i) where
  mean-alike : (j : ℕ) → j < n → mean_at x step stride j ≡ mean_at y step stride j
  mean-alike j h =
      let r = room j h in
      let a : x (j * step) ≡ y (j * step) = values (j * step) (omega arith) in
      let b : x (j * step + stride) ≡ y (j * step + stride) = values (j * step + stride) (omega arith) in
      let c : x (j * step + 2 * stride) ≡ y (j * step + 2 * stride) = values (j * step + 2 * stride) r in
      λ i. mean_of₃ (a i) (b i) (c i)

  mark-alike : (j : ℕ) → j < n → mark_at p step stride j ≡ mark_at q step stride j
  mark-alike j h =
      let r = room j h in
      let a : bit p (j * step) ≡ bit q (j * step) = marks (j * step) (omega arith) in
      let b : bit p (j * step + stride) ≡ bit q (j * step + stride) = marks (j * step + stride) (omega arith) in
      let c : bit p (j * step + 2 * stride) ≡ bit q (j * step + 2 * stride) = marks (j * step + 2 * stride) r in
      λ i. a i || (b i || c i)

  value-alike : (j : ℕ) → cond (ltb j n) (tenths (mean_at x step stride j)) (tenths (pos 0)) ≡ cond (ltb j n) (tenths (mean_at y step stride j)) (tenths (pos 0))
  value-alike j = go (dec_lt j n)
    where
      go : Dec (j < n) → cond (ltb j n) (tenths (mean_at x step stride j)) (tenths (pos 0)) ≡ cond (ltb j n) (tenths (mean_at y step stride j)) (tenths (pos 0))
      go (yes h) = rw (lt-ltb j n h) (ap tenths (mean-alike j h))
      go (no h) = rw (le-ltb j n (omega arith))

  means-alike : means_of x p n step stride ≡ means_of y q n step stride
  unfolding means_of
  means-alike = λ i. record {
    values = listed (λ j. value-alike j i) 16 0;
    marks = marks-alike (mark_at p step stride) (mark_at q step stride) n mark-alike i;
    len = n;
  }

octaves-other : (s : BandSet) → (s.len ≡ 16 → ⊥) → octaves_of s ≡ Err BandCount
unfolding octaves_of
octaves-other s f = rw (ne_eqb s.len 16 f)

octaves-agreed : (s t : BandSet) → s.len ≡ t.len → ((i : ℕ) → i < 16 → band_of s i ≡ band_of t i)
    → ((i : ℕ) → i < 16 → bit s.marks i ≡ bit t.marks i) → octaves_of s ≡ octaves_of t
unfolding octaves_of
octaves-agreed s t len values marks =
    let m : means_of (band_of s) s.marks 5 3 1 ≡ means_of (band_of t) t.marks 5 3 1 =
    means-alike (band_of s) (band_of t) s.marks t.marks 5 3 1 16 (λ j h. omega arith) values marks in
    rw (accepted-same s t 16 values, m, len)

pub octaves-past : (s t : BandSet) → Stated s t → octaves_of s ≡ octaves_of t
octaves-past = past_by octaves_of 16 (Err BandCount) octaves-other octaves-agreed

pub specimens-past : (a b : List Reading) (len : ℕ) → Alike a b len → specimens_of a len ≡ specimens_of b len
unfolding specimens_of
specimens-past a b len h = go (eqb len 48) refl
  where
    go : (t : Bool) → eqb len 48 ≡ t
        → cond t (specimens_by (all_of a 48)) (Err SpecimenCount) ≡ cond t (specimens_by (all_of b 48)) (Err SpecimenCount)
    go true e = ap specimens_by (all_past a b 48 (subst (Alike a b) (eqb-true len 48 e) h))
    go false e = refl
