-- 19 is given to exactly the registers that no bills and closings could have left so: what they leave is sound, and a sound
-- register is left by the bills that its entries tell of, up to what never matters. Assumes nothing.
use mathlib.Core.Path.{◌≡◌, refl, sym, ◌∙◌, ap, subst⁻¹}
use mathlib.Core.Bool.{true, false, ◌&&◌, Bool}
use Prim.Native.Nat.{ℕ, zero, suc, ◌+◌, ◌^◌, ◌≤◌, ◌<◌}
use native.Mathlib.Nat.{le_refl, mod-mod}
use native.Mathlib.Numerals.{add-one}
use native.Mathlib.Decide.{ℕ_discrete}
use native.Mathlib.Omega.{arith}
use borrow.Author.Tests.{lt-ltb, leb-true}
use lib.Dec.{eqb, leb}
use lib.ListN.{length}
use lib.Seq.{length-take-le}
use Rattle.laws.proofs.Tests.{never, refuted, both, clash}
use Rattle.quantity.specs.Keys.{key_shape}
use Rattle.quantity.specs.Quantities.{priced}
use Rattle.quantity.specs.Refusals.{number_of}
use Rattle.quantity.specs.declared.quantities.BandSet.{BandSet}
use Rattle.quantity.specs.declared.refusals.Refusal.{Refusal}
use Rattle.quantity.specs.declared.refusals.Refusal.TheVariants.{BandCount, BandRange, RegisterDamaged}
use Rattle.curve.specs.Bands.{accepted}
use Rattle.laws.specs.Tests.{any_to}
use Rattle.laws.proofs.Ranges.{all-at, any_same}
use Rattle.kinds.specs.declared.kinds.Kind.{Kind}
use Rattle.kinds.specs.declared.kinds.Kind.TheVariants.{A3}
use Rattle.kinds.specs.Kinds.{bands_of, kind_of, kind_number}
use Rattle.kinds.proofs.Numbered.{kind-of-number, kind-number-of}
use Rattle.rating.specs.declared.sheets.Sheet.{Sheet}
use Rattle.rating.specs.Sheets.{asked, sheet_of, rated_of}
use Rattle.entry.specs.declared.entries.Entry.{Entry}
use Rattle.register.specs.declared.registers.Register.{Register}
use Rattle.entry.specs.Entries.{key_of, set_of, bands_by, marks_to, same_key, is_sheet, ratable, keyed, entry_ok, Call, call_of, entry_of}
use Rattle.register.specs.Registers.{opened, entry_at, sound, known, with_entry, due_of, billed_of, owed_of, total_in}
use Rattle.register.specs.Registers.Due.{enter}
use Rattle.ledger.specs.Closings.{closed_of}
use Rattle.ledger.specs.Histories.{Calls, left, SameEntry, CouldBeLeft, Full}
use Rattle.ledger.specs.Histories.Calls.{start, next}
use Rattle.ledger.proofs.Grown.{key-kept, value-kept, entry_old, entry_new}
use Rattle.register.proofs.Dues.{place-free, unknown-held, due-damaged}
use Rattle.ledger.proofs.Histories.{left_grown, after_is, billed-is}
use Rattle.ledger.proofs.Moves.{closed-not}
use Rattle.register.proofs.Soundness.{all-ok, sound-fresh, sound_most, owed-damaged, owed-total}
use Rattle.ledger.proofs.Sameness.{key-alike, sound-same}
use Rattle.register.proofs.Seen.{Taken, Why, Seen, seen, placed}
use Rattle.register.proofs.Seen.Why.{damaged, misshapen, unrated, dear, other, crowded}
use Rattle.register.proofs.Seen.Seen.{turned, retried, added}
use Rattle.std.specs.Prelude.{Result, Ok, Err, Option, Some, None}

-- ---- the call that an entry tells of
abbrev kind_by : Option Kind → Kind
kind_by (Some k) = k
kind_by None = A3

abbrev call_from : Entry → Call
call_from e = call_of e.customer (key_of e) (kind_by (kind_of e.kind)) (set_of (kind_by (kind_of e.kind)) e) e.price.0

-- what is known of an entry that passes
record Passed (e : Entry) : Type 0 where
  kind : kind_of e.kind ≡ Some (kind_by (kind_of e.kind))
  sheet : Sheet
  rated : rated_of (kind_by (kind_of e.kind)) (set_of (kind_by (kind_of e.kind)) e) ≡ Ok sheet
  price : priced e.price.0 ≡ true
  short : e.length ≤ 32
  shape : key_shape (key_of e) ≡ true

passed : (e : Entry) → entry_ok e ≡ true → Passed e
unfolding entry_ok
passed e ok = by_kind (kind_of e.kind) refl
  where
    parts : (priced e.price.0 ≡ true) × (ratable (kind_of e.kind) e && keyed e ≡ true)
    parts = both (priced e.price.0) (ratable (kind_of e.kind) e && keyed e) ok

    inner : (ratable (kind_of e.kind) e ≡ true) × (keyed e ≡ true)
    inner = both (ratable (kind_of e.kind) e) (keyed e) parts.1

    key : (leb e.length 32 ≡ true) × (key_shape (key_of e) ≡ true)
    key = both (leb e.length 32) (key_shape (key_of e)) inner.1

    by-sheet : (k : Kind) → kind_of e.kind ≡ Some k → (d : Result Sheet Refusal) → rated_of k (set_of k e) ≡ d → is_sheet d ≡ true → Passed e
    by-sheet k q (Ok sheet) p t =
        let s : kind_by (kind_of e.kind) ≡ k = ap kind_by q in
        record {
          kind = q ∙ ap Some (sym s);
          sheet = sheet;
          rated = ap (λ (j : Kind). rated_of j (set_of j e)) s ∙ p;
          price = parts.0;
          short = leb-true e.length 32 key.0;
          shape = key.1;
        }
    by-sheet k q (Err refusal) p t = absurd (never t refl)

    by_kind : (n : Option Kind) → kind_of e.kind ≡ n → Passed e
    by_kind (Some k) q =
        by-sheet k q (rated_of k (set_of k e)) refl (sym (ap (λ (n : Option Kind). ratable n e) q) ∙ inner.0)
    by_kind None q = absurd (never inner.0 (ap (λ (n : Option Kind). ratable n e) q))

-- its entry says the same
told_same : (e : Entry) → Passed e → length e.key ≡ 32 → SameEntry (entry_of (call_from e)) e
unfolding entry_of
told_same e p full = record {
  customer = refl;
  key = key-kept (call_from e) within;
  length = long;
  kind = kinds;
  values = λ i h. value-kept (call_from e).set (call_from e).kind i (below i h);
  marks = ap (λ (n : ℕ). marks_to n (marks_to (bands_of (call_from e).kind) e.marks)) bands
      ∙ mod-mod e.marks (2 ^ bands_of (call_from e).kind)
      ∙ ap (λ (n : ℕ). marks_to n e.marks) (sym bands);
  price = refl;
}
  where
    long : length (key_of e) ≡ e.length
    long = length-take-le e.length e.key (omega (arith, full, p.short))

    within : length (key_of e) ≤ 32
    within = omega (arith, long, p.short)

    kinds : kind_number (call_from e).kind ≡ e.kind
    kinds = sym (kind-number-of e.kind (call_from e).kind p.kind)

    bands : bands_by (kind_of (kind_number (call_from e).kind)) ≡ bands_of (call_from e).kind
    bands = ap bands_by (kind-of-number (call_from e).kind)

    below : (i : ℕ) → i < bands_by (kind_of (kind_number (call_from e).kind)) → i < bands_of (call_from e).kind
    below i h = omega (arith, bands)

-- ---- the calls that a register tells of
calls-of : Register → ℕ → Calls
calls-of r zero = start
calls-of r (suc n) = next (calls-of r n) (call_from (entry_at r n))

-- they have entered the first n of its entries
record Entered (r : Register) (n : ℕ) (s : Register) : Type 0 where
  count : s.count ≡ n
  entries : (i : ℕ) → i < n → SameEntry (entry_at s i) (entry_at r i)

module _ (r : Register) (whole : sound r ≡ true) (full : Full r) where
  pass : (n : ℕ) → n < r.count → Passed (entry_at r n)
  pass n h = passed (entry_at r n) (all-at (λ i. entry_ok (entry_at r i)) r.count (all-ok r whole) n h)

  step : (n : ℕ) → n < r.count → Entered r n (left (calls-of r n)) → Entered r (suc n) (left (calls-of r (suc n)))
  unfolding left calls-of known with_entry
  step n h b = subst⁻¹ (Entered r (suc n)) (after_is s x due) (record { count = ap (λ (m : ℕ). m + 1) b.count ∙ add-one n; entries = each })
    where
      s : Register
      s = left (calls-of r n)

      x : Call
      x = call_from (entry_at r n)

      p : Passed (entry_at r n)
      p = pass n h

      same : SameEntry (entry_of x) (entry_at r n)
      same = told_same (entry_at r n) p (full.keys n h)

      new : known s (entry_of x) ≡ false
      new =
          ap (any_to (λ i. same_key (entry_at s i) (entry_of x))) b.count
          ∙ any_same (λ i. same_key (entry_at s i) (entry_of x)) (λ i. same_key (entry_at r i) (entry_at r n)) n (λ i q. key-alike (b.entries i q) same)
          ∙ sound-fresh r whole n h

      taken : Taken s x p.sheet
      taken = record { whole = (left_grown (calls-of r n)).whole; shape = p.shape; rated = p.rated; price = p.price }

      room : s.count < 512
      room = omega (arith, b.count, sound_most r whole)

      due : due_of s x ≡ enter p.sheet
      due =
          placed s x p.sheet taken
          ∙ place-free s (entry_of x) p.sheet (unknown-held s (entry_of x) new) new (lt-ltb s.count 512 room)

      fits : s.count < length s.entries
      fits = omega (arith, (left_grown (calls-of r n)).places, room)

      at : (i : ℕ) → i < suc n → Dec (i ≡ n) → SameEntry (entry_at (with_entry s (entry_of x)) i) (entry_at r i)
      at i q (yes e) =
          subst⁻¹ (λ (j : ℕ). SameEntry (entry_at (with_entry s (entry_of x)) j) (entry_at r i)) (e ∙ sym b.count)
          (subst⁻¹ (λ (d : Entry). SameEntry d (entry_at r i)) (entry_new s (entry_of x) fits)
          (subst⁻¹ (λ (j : ℕ). SameEntry (entry_of x) (entry_at r j)) e same))
      at i q (no e) =
          subst⁻¹ (λ (d : Entry). SameEntry d (entry_at r i)) (entry_old s (entry_of x) i (omega (arith, b.count))) (b.entries i (omega arith))

      each : (i : ℕ) → i < suc n → SameEntry (entry_at (with_entry s (entry_of x)) i) (entry_at r i)
      each i q = at i q (ℕ_discrete i n)

  entered : (n : ℕ) → n ≤ r.count → Entered r n (left (calls-of r n))
  unfolding left calls-of opened
  entered zero h = record { count = refl; entries = λ i q. absurd (omega arith) }
  entered (suc n) h = step n (omega arith) (entered n (omega arith))

  -- a register that passes is one that calls could have left
  pub sound-left : CouldBeLeft r
  sound-left =
      let b = entered r.count (le_refl r.count) in
      record { calls = calls-of r r.count; same = record { count = b.count; entries = λ i h. b.entries i (omega (arith, b.count)) } }

-- and one that calls could have left passes
pub left-sound : (r : Register) → CouldBeLeft r → sound r ≡ true
left-sound r l = sym (sound-same l.same) ∙ (left_grown l.calls).whole

-- ---- 19, on the answers

-- rating never refuses with 19, nor with 11
rated-number : (k : Kind) (s : BandSet) (n : Refusal) → rated_of k s ≡ Err n → number_of n ≤ 4
unfolding rated_of
rated-number k s n e = by_length (eqb s.len (bands_of k)) refl
  where
    by-range : eqb s.len (bands_of k) ≡ true → (b : Bool) → accepted s (bands_of k) ≡ b → number_of n ≤ 4
    by-range p true q =
        let c : Ok (sheet_of k s) ≡ Err n = sym (λ i. asked (p i) (asked (q i) (Ok (sheet_of k s)) BandRange) BandCount) ∙ e in
        clash cc
    by-range p false q =
        let c : Err BandRange ≡ Err n = sym (λ i. asked (p i) (asked (q i) (Ok (sheet_of k s)) BandRange) BandCount) ∙ e in
        let d : BandRange ≡ n = cc in
        let m : 4 ≡ number_of n = ap number_of d in
        omega arith

    by_length : (b : Bool) → eqb s.len (bands_of k) ≡ b → number_of n ≤ 4
    by_length true p = by-range p (accepted s (bands_of k)) refl
    by_length false p =
        let c : Err BandCount ≡ Err n = sym (λ i. asked (p i) (asked (accepted s (bands_of k)) (Ok (sheet_of k s)) BandRange) BandCount) ∙ e in
        let d : BandCount ≡ n = cc in
        let m : 1 ≡ number_of n = ap number_of d in
        omega arith

why-damaged : {r : Register} {x : Call} (n : Refusal) → Why r x n → number_of n ≡ 19 → sound r ≡ false
why-damaged n (damaged s) e = s
why-damaged n (misshapen s k) e = absurd (omega arith)
why-damaged {r} {x} n (unrated s k q) e = absurd (omega (arith, rated-number x.kind x.set n q))
why-damaged n (dear s k q p) e = absurd (omega arith)
why-damaged n (other t h k) e = absurd (omega arith)
why-damaged n (crowded t k m) e = absurd (omega arith)

damaged-bill : (r : Register) (x : Call) → billed_of r x ≡ Err RegisterDamaged → sound r ≡ false
damaged-bill r x e = go (seen r x)
  where
    go : Seen r x → sound r ≡ false
    go (turned n w d) =
        let c = sym (billed-is r x d) ∙ e in
        let q : n ≡ RegisterDamaged = cc in
        why-damaged n w (ap number_of q)
    go (retried sheet t h d) =
        let c = sym (billed-is r x d) ∙ e in
        clash cc
    go (added sheet t k room d) =
        let c = sym (billed-is r x d) ∙ e in
        clash cc

-- 19 is given only to a register that no calls could have left so
pub nineteen-right : (r : Register) (x : Call) → billed_of r x ≡ Err RegisterDamaged → CouldBeLeft r → ⊥
nineteen-right r x e l = never (left-sound r l) (damaged-bill r x e)

-- and to every such register, whatever is asked
module _ (r : Register) (full : Full r) (none : CouldBeLeft r → ⊥) where
  broken : sound r ≡ false
  broken = refuted (sound r) (λ s. none (sound-left r s full))

  pub nineteen-billed : (x : Call) → billed_of r x ≡ Err RegisterDamaged
  nineteen-billed x = billed-is r x (due-damaged r x broken)

  pub nineteen-owed : (customer : ℕ) → owed_of r customer ≡ Err RegisterDamaged
  nineteen-owed customer = sym (owed-damaged r customer broken)

  pub nineteen-closed : (customer : ℕ) → closed_of r customer ≡ r
  nineteen-closed customer = closed-not r customer broken

-- a total is given of every register that calls could have left
pub total-given : (r : Register) (customer : ℕ) → CouldBeLeft r → owed_of r customer ≡ Ok (record { 0 = total_in r customer })
total-given r customer l = sym (owed-total r customer (record { 0 = total_in r customer }) (left-sound r l) refl)
