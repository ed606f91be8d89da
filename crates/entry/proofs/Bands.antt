-- Kinds and bands of entries: marks, and values one by one and as slices. Assumes nothing.
use mathlib.Core.Path.{◌≡◌, refl, sym, ◌∙◌, ap}
use mathlib.Core.Bool.{Bool, true, false, ◌&&◌}
use mathlib.Core.List.{List}
use Prim.Native.Nat.{ℕ, ◌<◌, ◌≤◌}
use native.Mathlib.Omega.{arith}
use borrow.Author.Tests.{le-leb, eqb-true, eq-eqb}
use lib.Dec.{eqb}
use lib.IntN.{ℤ, pos, negsuc}
use lib.Signed.{le_z}
use lib.ListN.{length, get_or, take}
use lib.Pointwise.{pointwise, pointwise_decides}
use lib.Seq.{ext_get_or, get_or-take, length-take-le}
use Rattle.std.specs.Bool.{Decides, one_answer}
use Rattle.std.specs.Cmp.{signed_Decides}
use Rattle.std.specs.Ordering.{int_eq}
use Rattle.laws.proofs.Tests.{both, both-made}
use Rattle.laws.proofs.Ints.{ints, le_yes, eq-made}
use Rattle.quantity.specs.Quantities.{nought}
use Rattle.quantity.specs.declared.quantities.Tenths.{Tenths}
use Rattle.laws.proofs.Ranges.{all-at, all_made}
use Rattle.kinds.specs.declared.kinds.Kind.{Kind}
use Rattle.kinds.specs.Kinds.{bands_of, kind_of, kind_number}
use Rattle.kinds.proofs.Numbered.{kind-of-number}
use Rattle.entry.specs.declared.entries.Entry.{Entry}
use Rattle.entry.specs.Entries.{value_of, marks_to, same_value, same_values, same_marks, bands_by, bands_in, same_bands, Call, entry_of}

-- ---- marks and bands
-- how many bands an entry of the kind has
bands-in : (n : ℕ) (k : Kind) → n ≡ kind_number k → bands_by (kind_of n) ≡ bands_of k
bands-in n k e = ap (λ (m : ℕ). bands_by (kind_of m)) e ∙ ap bands_by (kind-of-number k)

-- where the second is of the kind, the kind's bands are compared
pub bands_of_kind : (e f : Entry) (k : Kind) {m n : ℕ} → f.kind ≡ kind_number k → m ≡ marks_to (bands_of k) e.marks → n ≡ marks_to (bands_of k) f.marks
    → same_bands e f ≡ eqb e.kind f.kind && (eqb m n && same_values (bands_of k) e f)
unfolding same_bands
bands_of_kind e f k {m} {n} g a b = go (eqb e.kind f.kind) refl
  where
    go : (t : Bool) → eqb e.kind f.kind ≡ t
        → t && (same_marks (bands_in e) e f && same_values (bands_in e) e f) ≡ t && (eqb m n && same_values (bands_of k) e f)
    go true h = rw (bands-in e.kind k (eqb-true e.kind f.kind h ∙ g), a, b) refl
    go false h = refl

-- ---- what it means that two entries have the same bands
value-one : (x y : ℤ) → same_value x y ≡ true → x ≡ y
value-one x y e =
    let h = both (le_z x y) (le_z y x) e in
    let a = h.0 in
    let b = h.1 in
    eq-made (omega (ints, le_yes x y a, le_yes y x b))

value-refl : (z : ℤ) → same_value z z ≡ true
value-refl (pos n) = both-made (le-leb n n (omega arith)) (le-leb n n (omega arith))
value-refl (negsuc n) = both-made (le-leb n n (omega arith)) (le-leb n n (omega arith))

tenths-one : (x y : Tenths) → x.0 ≡ y.0 → x ≡ y
tenths-one x y h = let made : ℤ → Tenths = λ z. record { 0 = z } in ap made h

tenths-told : (x y : Tenths) → Decides (int_eq x.0 y.0) (x ≡ y)
tenths-told x y = let d = signed_Decides x.0 y.0 in (λ h. tenths-one x y (d.0 h), λ h. d.1 (ap (λ (t : Tenths). t.0) h))

module _ (e f : Entry) (n : ℕ) (p : n ≤ length e.values) (q : n ≤ length f.values) where
  slices-told : Decides (pointwise (λ (x y : Tenths). int_eq x.0 y.0) (take n e.values) (take n f.values)) (take n e.values ≡ take n f.values)
  slices-told = pointwise_decides tenths-told (take n e.values) (take n f.values)

  values-told : Decides (same_values n e f) (take n e.values ≡ take n f.values)
  unfolding same_values
  values-told = (
    λ h. ext_get_or nought (take n e.values) (take n f.values) (length-take-le n e.values p ∙ sym (length-take-le n f.values q))
        (λ i l. let u : i < n = omega (arith, length-take-le n e.values p) in
        get_or-take n e.values i nought u
        ∙ tenths-one _ _ (value-one (value_of e i) (value_of f i) (all-at (λ j. same_value (value_of e j) (value_of f j)) n h i u))
        ∙ sym (get_or-take n f.values i nought u)),
    λ h. all_made (λ i. same_value (value_of e i) (value_of f i)) n
        (λ i l. let u : get_or e.values i nought ≡ get_or f.values i nought =
        sym (get_or-take n e.values i nought l) ∙ ap (λ (s : List Tenths). get_or s i nought) h ∙ get_or-take n f.values i nought l in
        ap (λ (t : Tenths). same_value (value_of e i) t.0) (sym u) ∙ value-refl (value_of e i)),
  )

  -- the first n values, compared as slices
  pub values_eq : pointwise (λ (x y : Tenths). int_eq x.0 y.0) (take n e.values) (take n f.values) ≡ same_values n e f
  values_eq = one_answer _ (same_values n e f) slices-told values-told

-- one kind, and the same values and marks of all its bands
pub record OneBands (e f : Entry) : Type 0 where
  pub kind : e.kind ≡ f.kind
  pub values : (i : ℕ) → i < bands_in e → value_of e i ≡ value_of f i
  pub marks : marks_to (bands_in e) e.marks ≡ marks_to (bands_in e) f.marks

pub bands-one : (e f : Entry) → same_bands e f ≡ true → OneBands e f
unfolding same_bands same_values
bands-one e f h =
    let a = both (eqb e.kind f.kind) (same_marks (bands_in e) e f && same_values (bands_in e) e f) h in
    let b = both (same_marks (bands_in e) e f) (same_values (bands_in e) e f) a.1 in
    record {
      kind = eqb-true e.kind f.kind a.0;
      values = λ i p. value-one (value_of e i) (value_of f i) (all-at (λ j. same_value (value_of e j) (value_of f j)) (bands_in e) b.1 i p);
      marks = eqb-true (marks_to (bands_in e) e.marks) (marks_to (bands_in e) f.marks) b.0;
    }

pub bands-made : (e f : Entry) → OneBands e f → same_bands e f ≡ true
unfolding same_bands same_values
bands-made e f o =
    both-made (eq-eqb e.kind f.kind o.kind)
    (both-made (eq-eqb (marks_to (bands_in e) e.marks) (marks_to (bands_in e) f.marks) o.marks)
    (all_made (λ i. same_value (value_of e i) (value_of f i)) (bands_in e)
    (λ i p. ap (same_value (value_of e i)) (sym (o.values i p)) ∙ value-refl (value_of e i))))

-- ---- the entry of a call
module _ {e : Entry} (x : Call) (h : e ≡ entry_of x) where
  pub entry_length : e.length ≡ length x.key
  unfolding entry_of
  entry_length = ap (λ (f : Entry). f.length) h

  pub entry-kind : e.kind ≡ kind_number x.kind
  unfolding entry_of
  entry-kind = ap (λ (f : Entry). f.kind) h
