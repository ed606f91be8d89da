-- Readings one after the other: what a turn of the loop adds to the values and the marks, and that a refusal, once met, is
-- the refusal of every longer list. Assumes nothing.
use mathlib.Core.Path.{◌≡◌, refl, sym, ◌∙◌, ap}
use mathlib.Core.Bool.{Bool, true, false}
use mathlib.Core.List.{List}
use Prim.Native.Nat.{ℕ, zero, suc, ◌+◌, ◌-◌, ◌^◌, ◌≤◌, ◌<◌}
use native.Mathlib.Nat.{zero-add, two-pow-succ}
use native.Mathlib.Numerals.{add-one}
use native.Mathlib.Omega.{arith}
use borrow.Author.Tests.{eq-eqb, ne_eqb}
use lib.ListN.{length, get_or, set, take, replicate, length-take}
use lib.Seq.{get_or-take, ext_get_or}
use lib.Pow.{pow_mono}
use Rattle.laws.specs.Lists.{listed}
use Rattle.quantity.specs.declared.quantities.Tenths.{Tenths}
use Rattle.quantity.specs.declared.quantities.Reading.{Reading}
use Rattle.quantity.specs.declared.refusals.Refusal.{Refusal}
use Rattle.quantity.specs.declared.refusals.Refusal.TheVariants.{BandCount}
use Rattle.quantity.specs.Refusals.{or_else}
use Rattle.measurement.specs.declared.lists.Readings.{Readings}
use Rattle.measurement.proofs.Filling.{filled_length, filled_at, filled_more}
use Rattle.measurement.specs.Lists.{taken_at, value_of, limit_of, fault_of, refusal_in, weight_of, marks_in, value_in, values_in, all_by, all_of, list_of}
use Rattle.quantity.specs.Quantities.{nought}
use Rattle.std.specs.Prelude.{Result, Ok, Err, Option, Some, None}
use Rattle.laws.proofs.Tests.{clash}
use Rattle.intake.specs.declared.singles.Taken.{Taken}

-- a mark is at most its bit
pub weight-most : (b : Bool) (n : ℕ) → weight_of b n ≤ 2 ^ n
weight-most true n = omega arith
weight-most false n = omega arith

module _ (readings : List Reading) where
  value : ℕ → Tenths
  value i = value_of (taken_at readings i)

  length-values : (n k : ℕ) → length (values_in readings n k) ≡ k
  unfolding values_in value
  length-values n k = filled_length value n k

  -- value j of the first n readings
  pub value-at : (n k j : ℕ) → j < k → get_or (values_in readings n k) j nought ≡ value_in readings n j
  unfolding values_in value
  value-at n k j h = filled_at value n k j h

  -- one more value
  values_more : (n k : ℕ) → n < k → set (values_in readings n k) n (value_of (taken_at readings n)) ≡ values_in readings (n + 1) k
  unfolding values_in value
  values_more n k h = filled_more value n k h

  -- the lowest of them
  pub values-head : (n k m : ℕ) → m ≤ k → take m (values_in readings n k) ≡ values_in readings n m
  values-head n k m h = ext_get_or nought (take m (values_in readings n k)) (values_in readings n m) (lengths ∙ sym (length-values n m)) each
    where
      lengths : length (take m (values_in readings n k)) ≡ m
      lengths = length-take m (values_in readings n k) ∙ omega (arith, length-values n k)

      each : (j : ℕ) → j < length (take m (values_in readings n k)) → get_or (take m (values_in readings n k)) j nought ≡ get_or (values_in readings n m) j nought
      each j g =
          let l : j < m = omega (arith, lengths) in
          get_or-take m (values_in readings n k) j nought l ∙ value-at n k j (omega arith) ∙ sym (value-at n m j l)

  -- ---- marks

  pub marks_more : (n : ℕ) → marks_in readings (n + 1) ≡ marks_in readings n + weight_of (limit_of (taken_at readings n)) n
  unfolding marks_in
  marks_more n = ap (marks_in readings) (add-one n)

  pub marks-bound : (n : ℕ) → marks_in readings n < 2 ^ n
  unfolding marks_in
  marks-bound zero = omega arith
  marks-bound (suc n) = omega (arith, marks-bound n, weight-most (limit_of (taken_at readings n)) n, two-pow-succ n)

  -- ---- refusals

  pub refusal_more : (n : ℕ) → refusal_in readings (n + 1) ≡ or_else (refusal_in readings n) (fault_of (taken_at readings n))
  unfolding refusal_in
  refusal_more n = ap (refusal_in readings) (add-one n)

  pub refusal-stays : (n k : ℕ) (r : Refusal) → refusal_in readings n ≡ Some r → refusal_in readings (k + n) ≡ Some r
  unfolding refusal_in
  refusal-stays n zero r e = ap (refusal_in readings) (zero-add n) ∙ e
  refusal-stays n (suc k) r e =
      let q : suc k + n ≡ suc (k + n) = omega arith in
      ap (refusal_in readings) q ∙ ap (λ (o : Option Refusal). or_else o (fault_of (taken_at readings (k + n)))) (refusal-stays n k r e)

-- ---- the loop over the readings: so far none was refused
module _ (readings : List Reading) where
  pub refusal_none : refusal_in readings 0 ≡ None
  unfolding refusal_in
  refusal_none = refl

  pub values_none : values_in readings 0 48 ≡ replicate 48 nought
  unfolding values_in listed
  values_none = refl

  pub marks_none : marks_in readings 0 ≡ 0
  unfolding marks_in
  marks_none = refl

  -- one more is taken
  module _ (n : ℕ) (x : Taken) (e : Ok x ≡ taken_at readings n) where
    pub accepted_more : refusal_in readings n ≡ None → refusal_in readings (n + 1) ≡ None
    accepted_more t = refusal_more readings n ∙ ap (λ (o : Option Refusal). or_else o (fault_of (taken_at readings n))) t ∙ ap fault_of (sym e)

    pub held_more : n < 48 → set (values_in readings n 48) n x.value ≡ values_in readings (n + 1) 48
    held_more h = ap (λ (y : Result Taken Refusal). set (values_in readings n 48) n (value_of y)) e ∙ values_more readings n 48 h

    pub marked_more : marks_in readings n + weight_of x.limit n ≡ marks_in readings (n + 1)
    marked_more = ap (λ (y : Result Taken Refusal). marks_in readings n + weight_of (limit_of y) n) e ∙ sym (marks_more readings n)

    -- the marks of 48 readings fit their number
    pub marks_fit : n < 48 → marks_in readings n + weight_of x.limit n < 18446744073709551616
    marks_fit h = omega (arith, marked_more, marks-bound readings (n + 1), pow_mono {i = n + 1} {j = 48} (omega arith))

  -- one is refused
  pub refused_at : (count i : ℕ) (r : Refusal) → i < count → refusal_in readings i ≡ None → Err r ≡ taken_at readings i → all_of readings count ≡ Err r
  unfolding all_of
  refused_at count i r h t e =
      let q : count - (i + 1) + (i + 1) ≡ count = omega arith in
      let met : refusal_in readings (i + 1) ≡ Some r =
      refusal_more readings i ∙ ap (λ (o : Option Refusal). or_else o (fault_of (taken_at readings i))) t ∙ ap fault_of (sym e) in
      rw (ap (refusal_in readings) (sym q) ∙ refusal-stays readings (i + 1) (count - (i + 1)) r met)

-- what a turn of the loop takes, and what it starts from
pub ruleset turns = (refusal_none, values_none, marks_none, accepted_more, held_more, marked_more, marks_fit, refused_at)

-- ---- and back: what was taken is what the definition says of accepted readings, and a refusal is the first

pub record Whole (readings : List Reading) (n : ℕ) (s : Readings) : Type 0 where
  pub accepted : refusal_in readings n ≡ None
  pub values : s.values ≡ values_in readings n 48
  pub marks : s.marks ≡ marks_in readings n

pub all-taken : (readings : List Reading) (n : ℕ) (s : Readings) → all_of readings n ≡ Ok s → Whole readings n s
unfolding all_of
all-taken readings n s e = go (refusal_in readings n) refl e
  where
    go : (o : Option Refusal) → refusal_in readings n ≡ o → all_by o readings n ≡ Ok s → Whole readings n s
    go None f g =
        let h : ◌≡◌ {A = Readings} s (record { values = values_in readings n 48; marks = marks_in readings n }) = cc in
        record { accepted = f; values = ap (λ (x : Readings). x.values) h; marks = ap (λ (x : Readings). x.marks) h }
    go (Some r) f g = clash cc

pub all-refused : (readings : List Reading) (n : ℕ) (r : Refusal) → all_of readings n ≡ Err r → refusal_in readings n ≡ Some r
unfolding all_of
all-refused readings n r e = go (refusal_in readings n) e
  where
    go : (o : Option Refusal) → all_by o readings n ≡ Err r → o ≡ Some r
    go None g = clash cc
    go (Some q) g = cc

-- ---- a band list, from what becomes of its readings

pub list_count : (readings : List Reading) (len bands : ℕ) → (len ≡ bands → ⊥) → Err BandCount ≡ list_of readings len bands
unfolding list_of
list_count readings len bands d = rw (ne_eqb len bands d)

pub list_refused : (readings : List Reading) (len bands : ℕ) (r : Refusal) → len ≡ bands → Err r ≡ all_of readings bands → Err r ≡ list_of readings len bands
unfolding list_of
list_refused readings len bands r e f = rw (eq-eqb len bands e, all-refused readings bands r (sym f))

-- the marks of a set fit their number
pub list_marks : (readings : List Reading) (n : ℕ) (s : Readings) → n ≤ 16 → Ok s ≡ all_of readings n → s.marks < 65536
list_marks readings n s h e =
    omega (arith, (all-taken readings n s (sym e)).marks, marks-bound readings n, pow_mono {i = n} {j = 16} h)

pub list_accepted : (readings : List Reading) (len bands : ℕ) (s : Readings) → len ≡ bands → Ok s ≡ all_of readings bands
    → list_of readings len bands ≡ Ok (record { values = take 16 s.values; marks = s.marks; len = bands })
unfolding list_of
list_accepted readings len bands s e f =
    let w = all-taken readings bands s (sym f) in
    rw (eq-eqb len bands e, w.accepted, w.values, w.marks, values-head readings bands 48 16 (omega arith))

-- the ways out of a band list
pub ruleset exits = (list_count, list_refused, list_marks, list_accepted)
