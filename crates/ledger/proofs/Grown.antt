-- What a bill leaves is sound: the entry of an accepted call is one that passes, it is stored at the place of the count, and the
-- entries before it stay. Assumes nothing.
use mathlib.Core.Path.{◌≡◌, refl, sym, ◌∙◌, ap, ap₂, subst⁻¹}
use mathlib.Core.Bool.{Bool, true, false, ◌&&◌, ◌||◌, not, cond}
use mathlib.Core.List.{List}
use Prim.Native.Nat.{ℕ, ◌+◌, ◌≤◌, ◌<◌}
use native.Mathlib.Nat.{zero-add}
use native.Mathlib.Numerals.{add-one}
use native.Mathlib.Decide.{ℕ_discrete}
use native.Mathlib.Omega.{arith}
use borrow.Author.Tests.{lt-ltb, le-leb}
use lib.Dec.{eqb}
use lib.ListN.{length, get_or, take, length-set, length-replicate}
use lib.Seq.{get_or-set_same, get_or-set_other, get_or-take, length-take-le, ext_get_or}
use Rattle.laws.specs.Lists.{listed}
use Rattle.laws.proofs.Lists.{length-listed, get_or-listed}
use Rattle.laws.specs.Sums.{sum_to}
use Rattle.laws.proofs.Sums.{sum_same, sum_more}
use Rattle.laws.proofs.Tests.{both-made}
use Rattle.quantity.specs.Keys.{key_shape}
use Rattle.quantity.specs.Quantities.{band_of, nought}
use Rattle.quantity.specs.declared.quantities.BandSet.{BandSet}
use Rattle.quantity.specs.declared.quantities.Tenths.{Tenths}
use Rattle.quantity.proofs.Shapes.{key-shape}
use Rattle.laws.specs.Tests.{all_to, any_to}
use Rattle.laws.proofs.Ranges.{all_more, all_same, any_same}
use Rattle.curve.proofs.Searched.{count_most}
use Rattle.kinds.specs.declared.kinds.Kind.{Kind}
use Rattle.kinds.specs.Kinds.{bands_of}
use Rattle.kinds.proofs.Facts.{count-of}
use Rattle.kinds.proofs.Numbered.{kind-of-number}
use Rattle.rating.specs.declared.sheets.Sheet.{Sheet}
use Rattle.rating.specs.Sheets.{rated_of}
use Rattle.rating.proofs.Theorems.{past-length}
use Rattle.entry.specs.declared.entries.Entry.{Entry}
use Rattle.register.specs.declared.registers.Register.{Register}
use Rattle.entry.specs.Entries.{key_of, set_of, same_text, same_key, same_bands, is_sheet, ratable, entry_ok, Call, kept_value, entry_of, no_entry}
use Rattle.register.specs.Registers.{opened, entry_at, repeated, sound, known, held, with_entry, due_of, after_by, after_of, Due}
use Rattle.ledger.specs.Histories.{same_caller}
use Rattle.ledger.proofs.Sameness.{bit-mod}
use Rattle.register.proofs.Soundness.{all-ok, all_apart}
use Rattle.register.proofs.Seen.{Taken, Seen, seen}
use Rattle.register.proofs.Seen.Seen.{turned, retried, added}
use Rattle.rating.proofs.Small.{rated-by}
use Rattle.std.specs.Prelude.{Ok, Option}

-- ---- the entry of a call

-- the customer and the key are kept
pub customer-kept : (x : Call) → (entry_of x).customer ≡ x.customer
unfolding entry_of
customer-kept x = refl

pub key-kept : (x : Call) → length x.key ≤ 32 → key_of (entry_of x) ≡ x.key
unfolding entry_of
key-kept x h =
    let l : List ℕ = listed (λ i. get_or x.key i 0) 32 0 in
    let n : length l ≡ 32 = length-listed 0 (λ i. get_or x.key i 0) 32 0 in
    let m : length (take (length x.key) l) ≡ length x.key = length-take-le (length x.key) l (omega arith) in
    ext_get_or 0 (take (length x.key) l) x.key m
    (λ i q. get_or-take (length x.key) l i 0 (omega arith) ∙ get_or-listed 0 (λ i. get_or x.key i 0) 32 0 i (omega arith) ∙ ap (λ (n : ℕ). get_or x.key n 0) (zero-add i))

pub short : (key : List ℕ) → key_shape key ≡ true → length key ≤ 32
short key e = (key-shape key e).most

-- the values of the kind's bands are kept
pub value-kept : (s : BandSet) (k : Kind) (i : ℕ) → i < bands_of k → (get_or (listed (kept_value s (bands_of k)) 16 0) i nought).0 ≡ band_of s i
value-kept s k i h =
    let m : bands_of k ≤ 16 = count_most (count-of k) in
    ap (λ (t : Tenths). t.0) (get_or-listed nought (kept_value s (bands_of k)) 16 0 i (omega arith) ∙ ap (kept_value s (bands_of k)) (omega arith))
    ∙ ap (λ (b : Bool). (cond b (get_or s.values i nought) nought).0) (lt-ltb i (bands_of k) h)

-- what was entered is rated as what was asked
pub rated-kept : (x : Call) (sheet : Sheet) → rated_of x.kind x.set ≡ Ok sheet
    → rated_of x.kind (set_of x.kind (entry_of x)) ≡ Ok sheet
unfolding entry_of
rated-kept x sheet e =
    past-length x.kind (set_of x.kind (entry_of x)) x.set (record {
      len = sym (rated-by x.kind x.set sheet e).len;
      values = λ i h. value-kept x.set x.kind i h;
      marks = λ i h. bit-mod x.set.marks (bands_of x.kind) i h;
    }) ∙ e

entered-ok : {r : Register} {x : Call} {sheet : Sheet} → Taken r x sheet → entry_ok (entry_of x) ≡ true
unfolding entry_ok entry_of
entered-ok {r} {x} {sheet} t =
    both-made t.price
    (both-made
    (ap (λ (n : Option Kind). ratable n (entry_of x)) (kind-of-number x.kind) ∙ ap is_sheet (rated-kept x sheet t.rated))
    (both-made (le-leb (length x.key) 32 (short x.key t.shape))
    (ap key_shape (key-kept x (short x.key t.shape)) ∙ t.shape)))

-- entries of two calls have one customer and key where the calls have
pub caller-key : (x y : Call) → length x.key ≤ 32 → length y.key ≤ 32 → same_key (entry_of x) (entry_of y) ≡ same_caller x y
unfolding same_key entry_of
caller-key x y h g = λ i. eqb (customer-kept x i) (customer-kept y i) && same_text (key-kept x h i) (key-kept y g i)

-- ---- a register with one entry more

-- a law of each place of the first n, and of place n
pub each_to : (P : ℕ → Type 0) (n : ℕ) → ((i : ℕ) → i < n → P i) → P n → (i : ℕ) → i < n + 1 → P i
each_to P n before last i h = go (ℕ_discrete i n)
  where
    go : Dec (i ≡ n) → P i
    go (yes e) = subst⁻¹ P e last
    go (no e) = before i (omega arith)

module _ (r : Register) (e : Entry) where
  pub entry_old : (i : ℕ) → i < r.count → entry_at (with_entry r e) i ≡ entry_at r i
  unfolding with_entry
  entry_old i h = get_or-set_other r.entries r.count i e _ (λ q. omega arith)

  pub entry_new : r.count < length r.entries → entry_at (with_entry r e) r.count ≡ e
  unfolding with_entry
  entry_new h = get_or-set_same r.entries r.count e _ h

  pub any-with : (f : Entry → Bool) → r.count < length r.entries
      → any_to (λ i. f (entry_at (with_entry r e) i)) (with_entry r e).count ≡ any_to (λ i. f (entry_at r i)) r.count || f e
  unfolding any_to with_entry
  any-with f h =
      ap (any_to (λ i. f (entry_at (with_entry r e) i))) (add-one r.count)
      ∙ ap₂ ◌||◌ (any_same (λ i. f (entry_at (with_entry r e) i)) (λ i. f (entry_at r i)) r.count (λ i q. ap f (entry_old i q))) (ap f (entry_new h))

  pub known-with : (g : Entry) → r.count < length r.entries → known (with_entry r e) g ≡ known r g || same_key e g
  unfolding known
  known-with g = any-with (λ f. same_key f g)

  pub held_with : (g : Entry) → r.count < length r.entries → held (with_entry r e) g ≡ held r g || (same_key e g && same_bands e g)
  unfolding held
  held_with g = any-with (λ f. same_key f g && same_bands f g)

  pub sum-with : (worth : Entry → ℕ) → r.count < length r.entries
      → sum_to (λ i. worth (entry_at (with_entry r e) i)) (with_entry r e).count ≡ sum_to (λ i. worth (entry_at r i)) r.count + worth e
  unfolding with_entry
  sum-with worth h =
      sum_more (λ i. worth (entry_at (with_entry r e) i)) r.count
      ∙ ap₂ ◌+◌
      (sum_same (λ i. worth (entry_at (with_entry r e) i)) (λ i. worth (entry_at r i)) r.count (λ i q. ap worth (entry_old i q)))
      (ap worth (entry_new h))

-- ---- what calls leave: sound, and with 512 places
pub record Grown (r : Register) : Type 0 where
  pub whole : sound r ≡ true
  pub places : length r.entries ≡ 512

pub opened-grown : Grown opened
unfolding opened sound all_to
opened-grown = record { whole = refl; places = length-replicate 512 no_entry }

pub with-grown : (r : Register) (e : Entry) → Grown r → entry_ok e ≡ true → known r e ≡ false → r.count < 512 → Grown (with_entry r e)
unfolding sound with_entry known
with-grown r e g ok new room = record { whole = sounds; places = length-set r.entries r.count e ∙ g.places }
  where
    fits : r.count < length r.entries
    fits = omega (arith, g.places)

    s : Register
    s = with_entry r e

    oks : all_to (λ i. entry_ok (entry_at s i)) (r.count + 1) ≡ true
    oks =
        all_more (λ i. entry_ok (entry_at s i)) r.count
        (all_same (λ i. entry_ok (entry_at s i)) (λ i. entry_ok (entry_at r i)) r.count (λ i h. ap entry_ok (entry_old r e i h)) ∙ all-ok r g.whole)
        (ap entry_ok (entry_new r e fits) ∙ ok)

    old : (i : ℕ) → i < r.count → repeated s i ≡ repeated r i
    old i h =
        any_same (λ j. same_key (entry_at s j) (entry_at s i)) (λ j. same_key (entry_at r j) (entry_at r i)) i
        (λ j q. ap₂ same_key (entry_old r e j (omega arith)) (entry_old r e i h))

    last : repeated s r.count ≡ false
    last =
        any_same (λ j. same_key (entry_at s j) (entry_at s r.count)) (λ j. same_key (entry_at r j) e) r.count
        (λ j q. ap₂ same_key (entry_old r e j q) (entry_new r e fits))
        ∙ new

    apart : all_to (λ i. not (repeated s i)) (r.count + 1) ≡ true
    apart =
        all_more (λ i. not (repeated s i)) r.count
        (all_same (λ i. not (repeated s i)) (λ i. not (repeated r i)) r.count (λ i h. ap not (old i h)) ∙ all_apart r g.whole)
        (ap not last)

    sounds : sound s ≡ true
    sounds = both-made (le-leb (r.count + 1) 512 (omega arith)) (both-made oks apart)

pub after-grown : (r : Register) (x : Call) → Grown r → Grown (after_of r x)
unfolding after_of
after-grown r x g = go (seen r x)
  where
    go : Seen r x → Grown (after_by (due_of r x) r (entry_of x))
    go (turned refusal w d) = subst⁻¹ (λ (d : Due). Grown (after_by d r (entry_of x))) d g
    go (retried sheet t h d) = subst⁻¹ (λ (d : Due). Grown (after_by d r (entry_of x))) d g
    go (added sheet t k room d) =
        subst⁻¹ (λ (d : Due). Grown (after_by d r (entry_of x))) d (with-grown r (entry_of x) g (entered-ok t) k room)
