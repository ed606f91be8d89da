-- Theorems on single calls and on keys over a sequence of them: what lies past a stated length never matters; another kind or
-- other bands under a key that was accepted are refused with 17; a key that is not in use is charged its price while fewer than
-- 512 are, and refused with 18 from then on. Assumes nothing.
use mathlib.Core.Path.{◌≡◌, refl, sym, ◌∙◌, ap, ap₂}
use mathlib.Core.Bool.{Bool, true, false, ◌&&◌, not, cond}
use mathlib.Core.List.{List}
use Prim.Native.Nat.{ℕ, ◌+◌, ◌-◌, ◌^◌, ◌≤◌, ◌<◌}
use native.Mathlib.Nat.{add-zero, mod-mod}
use native.Mathlib.Omega.{arith}
use borrow.Author.Tests.{lt-ltb, le-ltb, eq-eqb}
use lib.ListN.{length, get_or}
use Rattle.laws.specs.Extremes.{one_if}
use Rattle.laws.specs.Lists.{listed}
use Rattle.laws.proofs.Tests.{refuted, both, both-made}
use Rattle.quantity.specs.Keys.{key_shape}
use Rattle.quantity.specs.Quantities.{priced}
use Rattle.quantity.specs.declared.quantities.BandSet.{BandSet}
use Rattle.quantity.specs.declared.quantities.Fen.{Fen}
use Rattle.quantity.specs.declared.refusals.Refusal.TheVariants.{NotARequest, PriceRange, OtherBands, RegisterFull, RegisterDamaged}
use Rattle.kinds.specs.declared.kinds.Kind.{Kind}
use Rattle.kinds.specs.Kinds.{bands_of, kind_of, kind_number}
use Rattle.kinds.proofs.Numbered.{kind-of-number}
use Rattle.rating.specs.declared.sheets.Sheet.{Sheet}
use Rattle.rating.specs.Sheets.{rated_of}
use Rattle.rating.proofs.Theorems.{Stated, past-length}
use Rattle.entry.specs.declared.entries.Entry.{Entry}
use Rattle.register.specs.declared.registers.Register.{Register}
use Rattle.entry.specs.Entries.{bands_by, bands_in, marks_to, same_key, same_bands, Call, call_of, kept_value, entry_of}
use Rattle.register.specs.Registers.{opened, entry_at, sound, known, held, place_due, rated_due, due_of, billed_of, with_entry, after_of, owed_of, Due}
use Rattle.register.specs.Registers.Due.{refuse}
use Rattle.ledger.specs.Closings.{without, closed_of}
use Rattle.ledger.specs.Histories.{accepted, settled, since, in_use, keys_of, keys, Calls, onward, spares, left, told, Again}
use Rattle.ledger.specs.Histories.Calls.{start, next, close}
use Rattle.entry.proofs.Bands.{OneBands, bands-one}
use Rattle.register.proofs.Dues.{due-other, place-free, place-full, held-known, unknown-held}
use Rattle.ledger.proofs.Grown.{value-kept, short, customer-kept, caller-key}
use Rattle.ledger.proofs.Histories.{left_grown, left-most, after_is, billed-is, taken_of, used-known, owed-left, keys-left}
use Rattle.ledger.proofs.Moves.{closed_is}
use Rattle.ledger.proofs.Rest.{count-without}
use Rattle.ledger.proofs.Retries.{accepted-held, held_onward, kept_same, listed_same}
use Rattle.ledger.proofs.Sameness.{marks-made}
use Rattle.register.proofs.Seen.{Taken, Seen, seen, placed}
use Rattle.register.proofs.Seen.Seen.{turned, retried, added}
use Rattle.laws.proofs.Ranges.{any_some, Some}
use Rattle.entry.proofs.Texts.{key-trans, text-made}
use Rattle.rating.proofs.Small.{rated-by}
use Rattle.std.specs.Prelude.{Result, Ok, Err}
use Rattle.register.specs.declared.steps.Billed.{Billed}
use Rattle.quantity.specs.declared.refusals.Refusal.{Refusal}

-- ---- what lies past a stated length never matters
module _ (r : Register) (customer : ℕ) (key : List ℕ) (k : Kind) (s t : BandSet) (price : ℕ) (same : Stated s t) where
  abbrev x : Call
  x = call_of customer key k s price

  abbrev y : Call
  y = call_of customer key k t price

  entry_past : (sheet : Sheet) → rated_of k s ≡ Ok sheet → entry_of x ≡ entry_of y
  unfolding entry_of
  entry_past sheet e = λ i. record {
    customer = customer;
    key = listed (λ j. get_or key j 0) 32 0;
    values = listed_same (kept_value s (bands_of k)) (kept_value t (bands_of k)) (kept_same s t (bands_of k) (λ j h. same.values j (omega (arith, len)))) 16 0 i;
    price = record { 0 = price };
    marks = marks-made s.marks t.marks (bands_of k) (λ j h. same.marks j (omega (arith, len))) i;
    length = length key;
    kind = kind_number k;
  }
    where
      len : s.len ≡ bands_of k
      len = (rated-by k s sheet e).len

  rated-past : (d : Result Sheet Refusal) → rated_of k s ≡ d → rated_due d r x ≡ rated_due d r y
  rated-past (Err refusal) e = refl
  rated-past (Ok sheet) e = ap (λ (f : Entry). cond (priced price) (place_due r f sheet) (refuse PriceRange)) (entry_past sheet e)

  due-past : due_of r x ≡ due_of r y
  unfolding due_of
  due-past =
      ap (λ (d : Due). cond (sound r) (cond (key_shape key) d (refuse NotARequest)) (refuse RegisterDamaged))
      (rated-past (rated_of k s) refl ∙ ap (λ (d : Result Sheet Refusal). rated_due d r y) (past-length k s t same))

  pub bill-past : billed_of r x ≡ billed_of r y
  bill-past = billed-is r x due-past ∙ sym (billed-is r y refl)

  pub after-past : after_of r x ≡ after_of r y
  after-past = go (seen r x)
    where
      go : Seen r x → after_of r x ≡ after_of r y
      go (turned n w d) = after_is r x d ∙ sym (after_is r y (sym due-past ∙ d))
      go (retried sheet u h d) = after_is r x d ∙ sym (after_is r y (sym due-past ∙ d))
      go (added sheet u h room d) =
          after_is r x d ∙ ap (λ (f : Entry). with_entry r f) (entry_past sheet u.rated) ∙ sym (after_is r y (sym due-past ∙ d))

-- ---- another kind or other bands

-- entries that have the same bands are of calls that ask for the same
module _ (x y : Call) where
  abbrev n : ℕ
  n = bands_of x.kind

  again-made : (sheet other : Sheet) → rated_of x.kind x.set ≡ Ok sheet → rated_of y.kind y.set ≡ Ok other
      → x.customer ≡ y.customer → x.key ≡ y.key → OneBands (entry_of x) (entry_of y) → Again x y
  unfolding entry_of
  again-made sheet other e f c t o = record {
    customer = c;
    key = t;
    kind = kinds;
    len = (rated-by x.kind x.set sheet e).len ∙ ap bands_of kinds ∙ sym (rated-by y.kind y.set other f).len;
    values = λ i h. sym (value-kept x.set x.kind i h) ∙ o.values i (omega (arith, bands)) ∙ value-kept y.set y.kind i (omega (arith, ap bands_of kinds));
    marks = sym (mod-mod x.set.marks (2 ^ n))
        ∙ ap (λ (m : ℕ). marks_to m (marks_to n x.set.marks)) (sym bands)
        ∙ o.marks
        ∙ ap (λ (m : ℕ). marks_to m (marks_to (bands_of y.kind) y.set.marks)) bands
        ∙ ap (λ (j : Kind). marks_to n (marks_to (bands_of j) y.set.marks)) (sym kinds)
        ∙ mod-mod y.set.marks (2 ^ n);
  }
    where
      kinds : x.kind ≡ y.kind
      kinds =
          let q = sym (kind-of-number x.kind) ∙ ap kind_of o.kind ∙ kind-of-number y.kind in
          cc

      bands : bands_by (kind_of (kind_number x.kind)) ≡ n
      bands = ap bands_by (kind-of-number x.kind)

-- two entries that each have the bands of a third have the same
through : {d e f : Entry} → OneBands d e → OneBands d f → OneBands e f
through {d} {e} {f} p q =
    let n : bands_in d ≡ bands_in e = ap (λ (k : ℕ). bands_by (kind_of k)) p.kind in
    record {
      kind = sym p.kind ∙ q.kind;
      values = λ i h. sym (p.values i (omega (arith, n))) ∙ q.values i (omega (arith, n));
      marks = ap (λ (m : ℕ). marks_to m e.marks) (sym n) ∙ sym p.marks ∙ q.marks ∙ ap (λ (m : ℕ). marks_to m f.marks) n;
    }

-- "same customer and key with another kind or other bands", after any calls in between that do not close the customer
pub other-bands : (h : Calls) (x : Call) (b : Billed) → billed_of (left h) x ≡ Ok b
    → (more : Calls) → spares x.customer more ≡ true → (y : Call) (other : Sheet)
    → x.customer ≡ y.customer → x.key ≡ y.key → rated_of y.kind y.set ≡ Ok other → priced y.price ≡ true → (Again x y → ⊥)
    → billed_of (left (onward (next h x) more)) y ≡ Err OtherBands
unfolding held
other-bands h x b e more spared y other c t rated p f = billed-is s y (placed s y other taken ∙ due-other s (entry_of y) other i.at i.below theirs whole differ)
  where
    s : Register
    s = left (onward (next h x) more)

    whole : sound s ≡ true
    whole = (left_grown (onward (next h x) more)).whole

    first : Taken (left h) x b.sheet
    first = taken_of (left h) x b e

    shape : key_shape y.key ≡ true
    shape = ap key_shape (sym t) ∙ first.shape

    taken : Taken s y other
    taken = record { whole = whole; shape = shape; rated = rated; price = p }

    i : Some (λ j. same_key (entry_at s j) (entry_of x) && same_bands (entry_at s j) (entry_of x)) s.count
    i = any_some (λ j. same_key (entry_at s j) (entry_of x) && same_bands (entry_at s j) (entry_of x)) s.count
        (held_onward (next h x) (entry_of x) (accepted-held h x b e) more (ap (λ (n : ℕ). spares n more) (customer-kept x) ∙ spared))

    ours : (same_key (entry_at s i.at) (entry_of x) ≡ true) × (same_bands (entry_at s i.at) (entry_of x) ≡ true)
    ours = both (same_key (entry_at s i.at) (entry_of x)) (same_bands (entry_at s i.at) (entry_of x)) i.passes

    theirs : same_key (entry_at s i.at) (entry_of y) ≡ true
    theirs =
        key-trans (entry_at s i.at) (entry_of x) (entry_of y) ours.0
        (caller-key x y (short x.key first.shape) (short y.key shape) ∙ both-made (eq-eqb x.customer y.customer c) (text-made t))

    differ : same_bands (entry_at s i.at) (entry_of y) ≡ false
    differ =
        refuted (same_bands (entry_at s i.at) (entry_of y)) (λ w.
        f (again-made x y b.sheet other first.rated rated c t (through (bands-one (entry_at s i.at) (entry_of x) ours.1) (bands-one (entry_at s i.at) (entry_of y) w))))

-- ---- keys that were not used before

-- as many entries as keys are in use
count-step : (h : Calls) (x : Call) → Seen (left h) x → (after_of (left h) x).count ≡ (left h).count + one_if (accepted (billed_of (left h) x) && not (in_use (told h) x))
unfolding with_entry
count-step h x (turned n w d) =
    ap (λ (s : Register). s.count) (after_is (left h) x d)
    ∙ sym (add-zero (left h).count)
    ∙ ap (λ (b : Result Billed Refusal). (left h).count + one_if (accepted b && not (in_use (told h) x))) (sym (billed-is (left h) x d))
count-step h x (retried sheet t k d) =
    ap (λ (s : Register). s.count) (after_is (left h) x d)
    ∙ sym (add-zero (left h).count)
    ∙ sym
    (ap₂ (λ (b : Result Billed Refusal) (u : Bool). (left h).count + one_if (accepted b && not u)) (billed-is (left h) x d)
    (used-known h x t.shape ∙ held-known (left h) (entry_of x) k))
count-step h x (added sheet t k room d) =
    ap (λ (s : Register). s.count) (after_is (left h) x d)
    ∙ sym
    (ap₂ (λ (b : Result Billed Refusal) (u : Bool). (left h).count + one_if (accepted b && not u)) (billed-is (left h) x d) (used-known h x t.shape ∙ k))

count-closed : (h : Calls) (c : ℕ) → (left h).count ≡ keys (told h) → (closed_of (left h) c).count ≡ keys (told h) - cond (settled (owed_of (left h) c)) (keys_of c (since c (told h))) 0
count-closed h c ih =
    let s : (closed_of (left h) c).count ≡ (without (left h) c).count = ap (λ (r : Register). r.count) (closed_is (left h) c (left_grown h).whole) in
    let o : cond (settled (owed_of (left h) c)) (keys_of c (since c (told h))) 0 ≡ keys_of c (since c (told h)) = ap (λ (o : Result Fen Refusal). cond (settled o) (keys_of c (since c (told h))) 0) (owed-left h c) in
    omega (arith, s, o, ih, count-without (left h) c (left-most h), keys-left h c)

pub count_left : (h : Calls) → (left h).count ≡ keys (told h)
unfolding left told keys opened
count_left start = refl
count_left (next h x) =
    count-step h x (seen (left h) x) ∙ ap (λ (n : ℕ). n + one_if (accepted (billed_of (left h) x) && not (in_use (told h) x))) (count_left h)
count_left (close h c) = count-closed h c (count_left h)

module _ (h : Calls) (x : Call) (sheet : Sheet) (shape : key_shape x.key ≡ true) (rated : rated_of x.kind x.set ≡ Ok sheet)
    (price : priced x.price ≡ true) (fresh : in_use (told h) x ≡ false) where
  taken : Taken (left h) x sheet
  taken = record { whole = (left_grown h).whole; shape = shape; rated = rated; price = price }

  new : known (left h) (entry_of x) ≡ false
  new = sym (used-known h x shape) ∙ fresh

  -- "A new key is entered and charged"
  pub new-charged : keys (told h) < 512 → billed_of (left h) x ≡ Ok (record { sheet = sheet; charged = record { 0 = x.price } })
  new-charged room =
      billed-is (left h) x
      (placed (left h) x sheet taken
      ∙ place-free (left h) (entry_of x) sheet (unknown-held (left h) (entry_of x) new) new (lt-ltb (left h).count 512 (omega (arith, count_left h))))

  -- "18 no room for a new key"
  pub new-refused : 512 ≤ keys (told h) → billed_of (left h) x ≡ Err RegisterFull
  new-refused many =
      billed-is (left h) x
      (placed (left h) x sheet taken
      ∙ place-full (left h) (entry_of x) sheet (unknown-held (left h) (entry_of x) new) new (le-ltb (left h).count 512 (omega (arith, count_left h))))
