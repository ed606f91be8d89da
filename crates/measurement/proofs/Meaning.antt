-- What the definitions mean, in document 01's words: the first refusal of a list, the bits of its marks, and that what was
-- taken is in range. Assumes nothing.
use mathlib.Core.Path.{◌≡◌, refl, sym, ◌∙◌, ap, subst}
use mathlib.Core.Bool.{Bool, true, false, cond}
use mathlib.Core.List.{List}
use Prim.Native.Nat.{ℕ, zero, suc, ◌+◌, ◌*◌, ◌-◌, ◌/◌, ◌%◌, ◌^◌, ◌≤◌, ◌<◌}
use native.Mathlib.Nat.{mul-add-div_right, div-eq_of_lt, lt_of_lt_of_le, add_comm, add-zero, pow-succ'}
use native.Mathlib.Decide.{dec_lt}
use native.Mathlib.Omega.{arith}
use mathlib.Core.Logic.{◌⊎◌, inl, inr}
use borrow.Author.Tests.{lt-ltb, eqb-true, eqb-false}
use lib.Dec.{eqb}
use lib.Ieee.{nan}
use lib.ListN.{get_or}
use lib.Pow.{pow-add, pow_pos, pow_mono}
use Rattle.quantity.specs.Quantities.{in_range, band_of, nought}
use Rattle.quantity.specs.declared.quantities.Tenths.{Tenths}
use Rattle.quantity.specs.declared.quantities.BandSet.{BandSet}
use Rattle.quantity.specs.declared.quantities.Reading.{Reading}
use Rattle.quantity.specs.declared.quantities.Reading.TheVariants.{Level}
use Rattle.quantity.specs.declared.refusals.Refusal.{Refusal}
use Rattle.quantity.specs.declared.refusals.Refusal.TheVariants.{BandCount}
use Rattle.quantity.specs.Refusals.{or_else}
use Rattle.measurement.specs.Lists.{taken_at, value_of, limit_of, fault_of, refusal_in, weight_of, marks_in, values_in, set_of, list_by, list_of}
use Rattle.intake.proofs.Meaning.{taken-range}
use Rattle.measurement.proofs.Runs.{marks-bound, value-at}
use Rattle.laws.specs.Extremes.{one_if}
use Rattle.laws.proofs.Tests.{clash}
use Rattle.std.specs.Prelude.{Result, Ok, Err, Option, Some, None}
use Rattle.intake.specs.declared.singles.Taken.{Taken}

-- ---- the first refusal

-- reading i is refused with r, and none below it is
pub record First (readings : List Reading) (n i : ℕ) (r : Refusal) : Type 0 where
  pub within : i < n
  pub refused : taken_at readings i ≡ Err r
  pub before : refusal_in readings i ≡ None

-- a reading that is taken
pub record Kept (t : Result Taken Refusal) : Type 0 where
  pub value : Taken
  pub same : t ≡ Ok value

after-accepted : (o : Option Refusal) (t : Result Taken Refusal) → or_else o (fault_of t) ≡ None → (o ≡ None) × Kept t
after-accepted None (Ok x) e = (refl, record { value = x; same = refl })
after-accepted None (Err r) e = clash cc
after-accepted (Some r) t e = clash cc

-- a power of two above bit i leaves it as it is
lower : (m : ℕ) (b : Bool) (n i : ℕ) → i < n → (m + weight_of b n) / 2 ^ i % 2 ≡ m / 2 ^ i % 2
lower m false n i h = ap (λ (x : ℕ). x / 2 ^ i % 2) (add-zero m)
lower m true n i h =
    let d = n - suc i in
    let e : 2 ^ n ≡ 2 * 2 ^ d * 2 ^ i =
    ap (λ (k : ℕ). 2 ^ k) (split i n h) ∙ pow-add 2 (suc d) i ∙ ap (λ (x : ℕ). x * 2 ^ i) (pow-succ' 2 d) in
    ap (λ (x : ℕ). x / 2 ^ i % 2) (ap (λ (x : ℕ). m + x) e ∙ add_comm m (2 * 2 ^ d * 2 ^ i))
    ∙ ap (λ (x : ℕ). x % 2) (mul-add-div_right (pow_pos i) (2 * 2 ^ d) m)
    ∙ omega arith
  where
    split : (i n : ℕ) → i < n → n ≡ suc (n - suc i) + i
    split i n h = omega arith

-- and the power at bit n is that bit
top : (m : ℕ) (b : Bool) (n : ℕ) → m < 2 ^ n → (m + weight_of b n) / 2 ^ n % 2 ≡ one_if b
top m false n h = ap (λ (x : ℕ). x % 2) (ap (λ (x : ℕ). x / 2 ^ n) (add-zero m) ∙ div-eq_of_lt h)
top m true n h =
    let e : m + 2 ^ n ≡ 1 * 2 ^ n + m = omega arith in
    ap (λ (x : ℕ). x % 2) (ap (λ (x : ℕ). x / 2 ^ n) e ∙ mul-add-div_right (pow_pos n) 1 m ∙ ap (λ (x : ℕ). 1 + x) (div-eq_of_lt h))

module _ (readings : List Reading) where
  -- nothing is refused: every reading is taken
  pub all-kept : (n i : ℕ) → i < n → refusal_in readings n ≡ None → Kept (taken_at readings i)
  unfolding refusal_in
  all-kept zero i h e = absurd (omega arith)
  all-kept (suc n) i h e =
      let a = after-accepted (refusal_in readings n) (taken_at readings n) e in
      go (λ p. all-kept n i p a.0) a.1 (dec_lt i n)
    where
      go : (i < n → Kept (taken_at readings i)) → Kept (taken_at readings n) → Dec (i < n) → Kept (taken_at readings i)
      go below here (yes p) = below p
      go below here (no p) =
          let q : i ≡ n = omega arith in
          subst (λ (k : ℕ). Kept (taken_at readings k)) (sym q) here

  pub record Met (n : ℕ) (r : Refusal) : Type 0 where
    pub at : ℕ
    pub first : First readings n at r

  -- the refusal given is that of the lowest reading that is refused
  pub first-refusal : (n : ℕ) (r : Refusal) → refusal_in readings n ≡ Some r → Met n r
  unfolding refusal_in
  first-refusal zero r e = clash cc
  first-refusal (suc n) r e = go (refusal_in readings n) (taken_at readings n) refl refl e (λ f. first-refusal n r f)
    where
      go : (o : Option Refusal) (t : Result Taken Refusal) → refusal_in readings n ≡ o → taken_at readings n ≡ t → or_else o (fault_of t) ≡ Some r
          → (refusal_in readings n ≡ Some r → Met n r) → Met (suc n) r
      go None (Ok x) f g h below = clash cc
      go None (Err q) f g h below =
          record { at = n; first = record { within = omega arith; refused = cc; before = f } }
      go (Some q) t f g h below =
          let m = below (f ∙ h) in
          record {
            at = m.at;
            first = record { within = omega (arith, m.first.within); refused = m.first.refused; before = m.first.before };
          }

  -- ---- the values of a list that was taken

  pub value-kept : (n k i : ℕ) → i < n → n ≤ k → get_or (values_in readings n k) i nought ≡ value_of (taken_at readings i)
  value-kept n k i h g = value-at readings n k i (omega arith) ∙ rw (lt-ltb i n h)

  pub value-range : (n k i : ℕ) → refusal_in readings n ≡ None → i < n → n ≤ k → in_range (get_or (values_in readings n k) i nought).0 ≡ true
  value-range n k i e h g =
      let t = all-kept n i h e in
      ap (λ (x : Tenths). in_range x.0) (value-kept n k i h g ∙ ap value_of t.same)
      ∙ taken-range (get_or readings i (Level nan)) t.value t.same

  -- ---- bit i of the marks is the mark of reading i, and 0 past the last

  pub mark-here : (n i : ℕ) → i < n → marks_in readings n / 2 ^ i % 2 ≡ one_if (limit_of (taken_at readings i))
  unfolding marks_in
  mark-here zero i h = absurd (omega arith)
  mark-here (suc n) i h = go (λ p. mark-here n i p) (dec_lt i n)
    where
      b : Bool
      b = limit_of (taken_at readings n)

      go : (i < n → marks_in readings n / 2 ^ i % 2 ≡ one_if (limit_of (taken_at readings i))) → Dec (i < n)
          → (marks_in readings n + weight_of b n) / 2 ^ i % 2 ≡ one_if (limit_of (taken_at readings i))
      go below (yes p) = lower (marks_in readings n) b n i p ∙ below p
      go below (no p) =
          let q : i ≡ n = omega arith in
          ap (λ (k : ℕ). (marks_in readings n + weight_of b n) / 2 ^ k % 2) q
          ∙ top (marks_in readings n) b n (marks-bound readings n)
          ∙ ap (λ (k : ℕ). one_if (limit_of (taken_at readings k))) (sym q)

  pub mark-past : (n i : ℕ) → n ≤ i → marks_in readings n / 2 ^ i ≡ 0
  mark-past n i h = div-eq_of_lt (lt_of_lt_of_le (marks-bound readings n) (pow_mono h))

-- ---- for who takes a list: where it is taken, the count is right, and the set is that of the readings

pub record Accepts (readings : List Reading) (len bands : ℕ) (s : BandSet) : Type 0 where
  pub count : len ≡ bands
  pub accepted : refusal_in readings bands ≡ None
  pub taken : s ≡ set_of readings bands

pub list-accepts : (readings : List Reading) (len bands : ℕ) (s : BandSet) → list_of readings len bands ≡ Ok s → Accepts readings len bands s
unfolding list_of
list-accepts readings len bands s e = go (eqb len bands) (refusal_in readings bands) (λ k. eqb-true len bands k) refl e
  where
    go : (b : Bool) (o : Option Refusal) → (b ≡ true → len ≡ bands) → refusal_in readings bands ≡ o
        → cond b (list_by o readings bands) (Err BandCount) ≡ Ok s → Accepts readings len bands s
    go true None h g k = record { count = h refl; accepted = g; taken = cc }
    go true (Some q) h g k = clash cc
    go false o h g k = clash cc

-- each band of a list that was taken is in range
pub list-range : (readings : List Reading) (len bands : ℕ) (s : BandSet) (i : ℕ) → Accepts readings len bands s → i < bands → bands ≤ 16
    → in_range (band_of s i) ≡ true
list-range readings len bands s i a h g =
    ap (λ (x : BandSet). in_range (band_of x i)) a.taken ∙ value-range readings bands 16 i a.accepted h g

-- where it is refused: for its count, whatever the readings, or else with their first refusal
pub list-refuses : (readings : List Reading) (len bands : ℕ) (q : Refusal) → list_of readings len bands ≡ Err q
    → ((len ≡ bands → ⊥) × (q ≡ BandCount)) ⊎ ((len ≡ bands) × (refusal_in readings bands ≡ Some q))
unfolding list_of
list-refuses readings len bands q e = go (eqb len bands) (refusal_in readings bands) (λ k. eqb-true len bands k) (λ k. eqb-false len bands k) refl e
  where
    go : (b : Bool) (o : Option Refusal) → (b ≡ true → len ≡ bands) → (b ≡ false → len ≡ bands → ⊥) → refusal_in readings bands ≡ o
        → cond b (list_by o readings bands) (Err BandCount) ≡ Err q
        → ((len ≡ bands → ⊥) × (q ≡ BandCount)) ⊎ ((len ≡ bands) × (refusal_in readings bands ≡ Some q))
    go true None h d g k = clash cc
    go true (Some p) h d g k = inr (h refl, cc)
    go false o h d g k = inl (d refl, cc)
