-- What lies past the stated length of a list of readings never matters: lists whose first readings are taken alike give the
-- same. Assumes nothing.
use mathlib.Core.Path.{◌≡◌, refl, ◌∙◌, ap, ap₂, subst}
use mathlib.Core.Bool.{Bool, true, false, cond}
use mathlib.Core.List.{List}
use Prim.Native.Nat.{ℕ, zero, suc, ◌+◌, ◌<◌}
use native.Mathlib.Nat.{le_refl}
use native.Mathlib.Decide.{dec_lt}
use native.Mathlib.Omega.{arith}
use borrow.Author.Tests.{lt-ltb, le-ltb, eqb-true}
use lib.Dec.{eqb}
use Rattle.laws.specs.Lists.{listed}
use Rattle.quantity.specs.Refusals.{or_else}
use Rattle.quantity.specs.declared.quantities.Reading.{Reading}
use Rattle.quantity.specs.declared.refusals.Refusal.TheVariants.{BandCount}
use Rattle.measurement.specs.Lists.{taken_at, value_of, limit_of, fault_of, refusal_in, weight_of, marks_in, value_in, values_in, all_by, all_of, list_by, list_of}
use Rattle.std.specs.Prelude.{Result, Ok, Err, Option, Some, None}
use Rattle.quantity.specs.declared.refusals.Refusal.{Refusal}
use Rattle.intake.specs.declared.singles.Taken.{Taken}

module _ (a b : List Reading) where
  -- the first n readings of both are taken alike
  abbrev pub Alike : ℕ → Type 0
  Alike n = (i : ℕ) → i < n → taken_at a i ≡ taken_at b i

  refusal-same : (n : ℕ) → Alike n → refusal_in a n ≡ refusal_in b n
  unfolding refusal_in
  refusal-same zero h = refl
  refusal-same (suc n) h =
      ap₂ (λ (o : Option Refusal) (t : Result Taken Refusal). or_else o (fault_of t)) (refusal-same n (λ i q. h i (omega arith))) (h n (le_refl (suc n)))

  marks-same : (n : ℕ) → Alike n → marks_in a n ≡ marks_in b n
  unfolding marks_in
  marks-same zero h = refl
  marks-same (suc n) h =
      ap₂ (λ (m : ℕ) (t : Result Taken Refusal). m + weight_of (limit_of t) n) (marks-same n (λ i q. h i (omega arith))) (h n (le_refl (suc n)))

  value_same : (n i : ℕ) → Alike n → value_in a n i ≡ value_in b n i
  value_same n i h = go (dec_lt i n)
    where
      go : Dec (i < n) → value_in a n i ≡ value_in b n i
      go (yes p) = rw (lt-ltb i n p) (ap value_of (h i p))
      go (no p) = rw (le-ltb i n (omega arith))

  values_same : (n k : ℕ) → Alike n → values_in a n k ≡ values_in b n k
  unfolding values_in
  values_same n k h = λ j. listed (λ i. value_same n i h j) k 0

  pub all_past : (n : ℕ) → Alike n → all_of a n ≡ all_of b n
  unfolding all_of
  all_past n h = ap (λ (o : Option Refusal). all_by o a n) (refusal-same n h) ∙ go (refusal_in b n)
    where
      go : (o : Option Refusal) → all_by o a n ≡ all_by o b n
      go None = λ j. Ok (record { values = values_same n 48 h j; marks = marks-same n h j })
      go (Some r) = refl

  list-alike : (n : ℕ) → Alike n → list_by (refusal_in a n) a n ≡ list_by (refusal_in b n) b n
  list-alike n h = ap (λ (o : Option Refusal). list_by o a n) (refusal-same n h) ∙ go (refusal_in b n)
    where
      go : (o : Option Refusal) → list_by o a n ≡ list_by o b n
      go None = λ j. Ok (record { values = values_same n 16 h j; marks = marks-same n h j; len = n })
      go (Some r) = refl

  pub list-past : (len bands : ℕ) → Alike len → list_of a len bands ≡ list_of b len bands
  unfolding list_of
  list-past len bands h = go (eqb len bands) refl
    where
      go : (t : Bool) → eqb len bands ≡ t
          → cond t (list_by (refusal_in a bands) a bands) (Err BandCount) ≡ cond t (list_by (refusal_in b bands) b bands) (Err BandCount)
      go true e = list-alike bands (subst Alike (eqb-true len bands e) h)
      go false e = refl
