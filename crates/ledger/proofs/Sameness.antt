-- What never matters: entries and registers that differ at most past a key's length, past the kind's bands and from the count
-- on are told the same, by every definition of the register. Assumes nothing.
use mathlib.Core.Path.{◌≡◌, refl, sym, ◌∙◌, ap, ap₂}
use mathlib.Core.Bool.{◌&&◌, not, cond}
use Prim.Native.Nat.{ℕ, zero, suc, ◌+◌, ◌*◌, ◌-◌, ◌/◌, ◌%◌, ◌^◌, ◌≤◌, ◌<◌}
use native.Mathlib.Nat.{le_refl, mul-div_cancel}
use native.Mathlib.Numerals.{one-add}
use native.Mathlib.Omega.{arith}
use lib.Dec.{eqb, leb, ltb}
use lib.IntN.{ℤ}
use lib.Pow.{mod-pow-add, mod-mod-pow, pow_pos}
use Rattle.laws.specs.Sums.{sum_to}
use Rattle.laws.proofs.Sums.{sum_same}
use Rattle.laws.proofs.Tests.{never}
use Rattle.quantity.specs.Keys.{key_shape}
use Rattle.quantity.specs.Quantities.{priced}
use Rattle.quantity.specs.declared.refusals.Refusal.TheVariants.{NotARequest, PriceRange, OtherBands, RegisterFull, RegisterDamaged}
use Rattle.laws.specs.Tests.{all_to, any_to, bit}
use Rattle.laws.proofs.Ranges.{all_same, any_same}
use Rattle.kinds.specs.declared.kinds.Kind.{Kind}
use Rattle.kinds.specs.Kinds.{bands_of, kind_of}
use Rattle.rating.specs.declared.sheets.Sheet.{Sheet}
use Rattle.rating.specs.Sheets.{rated_of}
use Rattle.rating.proofs.Theorems.{past-length}
use Rattle.entry.specs.declared.entries.Entry.{Entry}
use Rattle.register.specs.declared.registers.Register.{Register}
use Rattle.entry.specs.Entries.{value_of, set_of, bands_by, bands_in, marks_to, same_text, same_value, same_key, same_values, same_bands, is_sheet, ratable, entry_ok, Call, entry_of}
use Rattle.register.specs.Registers.{entry_at, repeated, sound, known, held, price_for, total_in, owed_of, place_due, rated_due, due_of, billed_by, billed_of, Due}
use Rattle.register.specs.Registers.Due.{refuse, repeat, enter}
use Rattle.ledger.specs.Histories.{SameEntry, SameRegister}
use Rattle.std.specs.Prelude.{Result, Ok, Err, Option, Some, None}
use Rattle.quantity.specs.declared.refusals.Refusal.{Refusal}

-- ---- the marks of the first n bands are the bits below n
halves : (a b c d w : ℕ) → 0 < w → c ≡ d → a * w + c ≡ b * w + d → a ≡ b
halves a b c d w h e q = sym (mul-div_cancel a h) ∙ ap (λ (x : ℕ). x / w) (omega arith) ∙ mul-div_cancel b h

pub bit-mod : (m n i : ℕ) → i < n → bit (m % 2 ^ n) i ≡ bit m i
bit-mod m n i h = ap (λ (x : ℕ). eqb x 1) (halves (low / 2 ^ i % 2) (m / 2 ^ i % 2) (low % 2 ^ i) (m % 2 ^ i) (2 ^ i) (pow_pos i) below both)
  where
    low : ℕ
    low = m % 2 ^ n

    through : (k : ℕ) → k ≤ n → m % 2 ^ n % 2 ^ k ≡ m % 2 ^ k
    through k g = let s : n ≡ (n - k) + k = omega arith in
        ap (λ (j : ℕ). m % 2 ^ j % 2 ^ k) s ∙ mod-mod-pow m (n - k) k

    below : low % 2 ^ i ≡ m % 2 ^ i
    below = through i (omega arith)

    both : (low / 2 ^ i % 2) * 2 ^ i + low % 2 ^ i ≡ (m / 2 ^ i % 2) * 2 ^ i + m % 2 ^ i
    both = sym (mod-pow-add low 1 i) ∙ through (1 + i) (omega arith) ∙ mod-pow-add m 1 i

pub marks-bits : (m l n : ℕ) → marks_to n m ≡ marks_to n l → (i : ℕ) → i < n → bit m i ≡ bit l i
marks-bits m l n e i h = sym (bit-mod m n i h) ∙ ap (λ (x : ℕ). bit x i) e ∙ bit-mod l n i h

-- and back
digit : (a b : ℕ) → a < 2 → b < 2 → eqb a 1 ≡ eqb b 1 → a ≡ b
digit zero zero h g e = refl
digit zero (suc zero) h g e = absurd (never refl (sym e))
digit (suc zero) zero h g e = absurd (never refl e)
digit (suc zero) (suc zero) h g e = refl
digit zero (suc (suc b)) h g e = absurd (omega arith)
digit (suc zero) (suc (suc b)) h g e = absurd (omega arith)
digit (suc (suc a)) b h g e = absurd (omega arith)

pub marks-made : (m l n : ℕ) → ((i : ℕ) → i < n → bit m i ≡ bit l i) → marks_to n m ≡ marks_to n l
marks-made m l zero h = let a : m % 2 ^ 0 ≡ 0 = omega arith in let b : l % 2 ^ 0 ≡ 0 = omega arith in a ∙ sym b
marks-made m l (suc n) h =
    parted m
    ∙ ap₂ (λ (a b : ℕ). a * 2 ^ n + b) (digit (m / 2 ^ n % 2) (l / 2 ^ n % 2) (omega arith) (omega arith) (h n (le_refl (suc n)))) (marks-made m l n (λ i q. h i (omega arith)))
    ∙ sym (parted l)
  where
    parted : (k : ℕ) → k % 2 ^ suc n ≡ (k / 2 ^ n % 2) * 2 ^ n + k % 2 ^ n
    parted k = ap (λ (j : ℕ). k % 2 ^ j) (sym (one-add n)) ∙ mod-pow-add k 1 n

-- ---- entries
module _ {e f : Entry} (s : SameEntry e f) where
  bands-same : bands_in e ≡ bands_in f
  bands-same = ap (λ (n : ℕ). bands_by (kind_of n)) s.kind

  rated-same : (k : Kind) → kind_of e.kind ≡ Some k → rated_of k (set_of k e) ≡ rated_of k (set_of k f)
  rated-same k q =
      let n : bands_in e ≡ bands_of k = ap bands_by q in
      past-length k (set_of k e) (set_of k f) (record {
        len = refl;
        values = λ i h. s.values i (omega arith);
        marks = λ i h. marks-bits e.marks f.marks (bands_in e) s.marks i (omega arith);
      })

  ratable-same : ratable (kind_of e.kind) e ≡ ratable (kind_of f.kind) f
  ratable-same = go (kind_of e.kind) refl
    where
      go : (n : Option Kind) → kind_of e.kind ≡ n → ratable (kind_of e.kind) e ≡ ratable (kind_of f.kind) f
      go (Some k) q =
          ap (λ (n : Option Kind). ratable n e) q
          ∙ ap is_sheet (rated-same k q)
          ∙ sym (ap (λ (n : Option Kind). ratable n f) (ap kind_of (sym s.kind) ∙ q))
      go None q =
          ap (λ (n : Option Kind). ratable n e) q ∙ sym (ap (λ (n : Option Kind). ratable n f) (ap kind_of (sym s.kind) ∙ q))

  ok_same : entry_ok e ≡ entry_ok f
  unfolding entry_ok
  ok_same = λ i.
      priced (s.price i) && (ratable-same i && (leb (s.length i) 32 && key_shape (s.key i)))

  price-same : (customer : ℕ) → price_for customer e ≡ price_for customer f
  unfolding price_for
  price-same customer = λ i. cond (eqb (s.customer i) customer) (s.price i) 0

pub key-alike : {e f g h : Entry} → SameEntry e f → SameEntry g h → same_key e g ≡ same_key f h
unfolding same_key
key-alike s t = λ i. eqb (s.customer i) (t.customer i) && same_text (s.key i) (t.key i)

pub same-entry : (e : Entry) → SameEntry e e
same-entry e = record { customer = refl; key = refl; length = refl; kind = refl; values = λ i h. refl; marks = refl; price = refl }

bands-alike : {e f : Entry} → SameEntry e f → (g : Entry) → same_bands e g ≡ same_bands f g
unfolding same_bands same_values
bands-alike {e} {f} s g = λ i. eqb (s.kind i) g.kind && (marks i && values i)
  where
    n : bands_in e ≡ bands_in f
    n = bands-same s

    marks : eqb (marks_to (bands_in e) e.marks) (marks_to (bands_in e) g.marks) ≡ eqb (marks_to (bands_in f) f.marks) (marks_to (bands_in f) g.marks)
    marks =
        ap (λ (m : ℕ). eqb m (marks_to (bands_in e) g.marks)) s.marks
        ∙ ap (λ (b : ℕ). eqb (marks_to b f.marks) (marks_to b g.marks)) n

    values : all_to (λ i. same_value (value_of e i) (value_of g i)) (bands_in e) ≡ all_to (λ i. same_value (value_of f i) (value_of g i)) (bands_in f)
    values =
        all_same (λ i. same_value (value_of e i) (value_of g i)) (λ i. same_value (value_of f i) (value_of g i)) (bands_in e)
        (λ i h. ap (λ (z : ℤ). same_value z (value_of g i)) (s.values i h))
        ∙ ap (all_to (λ i. same_value (value_of f i) (value_of g i))) n

-- ---- registers
module _ {r s : Register} (a : SameRegister r s) where
  entries-ok : all_to (λ i. entry_ok (entry_at r i)) r.count ≡ all_to (λ i. entry_ok (entry_at s i)) s.count
  entries-ok =
      all_same (λ i. entry_ok (entry_at r i)) (λ i. entry_ok (entry_at s i)) r.count (λ i h. ok_same (a.entries i h))
      ∙ ap (all_to (λ i. entry_ok (entry_at s i))) a.count

  repeated-same : (i : ℕ) → i < r.count → repeated r i ≡ repeated s i
  repeated-same i h =
      any_same (λ j. same_key (entry_at r j) (entry_at r i)) (λ j. same_key (entry_at s j) (entry_at s i)) i
      (λ j g. key-alike (a.entries j (omega arith)) (a.entries i h))

  distinct-same : all_to (λ i. not (repeated r i)) r.count ≡ all_to (λ i. not (repeated s i)) s.count
  distinct-same =
      all_same (λ i. not (repeated r i)) (λ i. not (repeated s i)) r.count (λ i h. ap not (repeated-same i h))
      ∙ ap (all_to (λ i. not (repeated s i))) a.count

  pub sound-same : sound r ≡ sound s
  unfolding sound
  sound-same = λ i. leb (a.count i) 512 && (entries-ok i && distinct-same i)

  known_same : (e : Entry) → known r e ≡ known s e
  unfolding known
  known_same e =
      any_same (λ i. same_key (entry_at r i) e) (λ i. same_key (entry_at s i) e) r.count (λ i h. key-alike (a.entries i h) (same-entry e))
      ∙ ap (any_to (λ i. same_key (entry_at s i) e)) a.count

  held_same : (e : Entry) → held r e ≡ held s e
  unfolding held
  held_same e =
      any_same (λ i. same_key (entry_at r i) e && same_bands (entry_at r i) e) (λ i. same_key (entry_at s i) e && same_bands (entry_at s i) e) r.count
      (λ i h. ap₂ ◌&&◌ (key-alike (a.entries i h) (same-entry e)) (bands-alike (a.entries i h) e))
      ∙ ap (any_to (λ i. same_key (entry_at s i) e && same_bands (entry_at s i) e)) a.count

  total-same : (customer : ℕ) → total_in r customer ≡ total_in s customer
  unfolding total_in
  total-same customer =
      sum_same (λ i. price_for customer (entry_at r i)) (λ i. price_for customer (entry_at s i)) r.count (λ i h. price-same (a.entries i h) customer)
      ∙ ap (sum_to (λ i. price_for customer (entry_at s i))) a.count

  place_same : (e : Entry) (sheet : Sheet) → place_due r e sheet ≡ place_due s e sheet
  unfolding place_due
  place_same e sheet = λ i.
      cond (held_same e i) (repeat sheet)
      (cond (known_same e i) (refuse OtherBands) (cond (ltb (a.count i) 512) (enter sheet) (refuse RegisterFull)))

  rated-due-same : (d : Result Sheet Refusal) (x : Call) → rated_due d r x ≡ rated_due d s x
  rated-due-same (Err refusal) x = refl
  rated-due-same (Ok sheet) x = λ i. cond (priced x.price) (place_same (entry_of x) sheet i) (refuse PriceRange)

  pub due-same : (x : Call) → due_of r x ≡ due_of s x
  unfolding due_of
  due-same x = λ i.
      cond (sound-same i) (cond (key_shape x.key) (rated-due-same (rated_of x.kind x.set) x i) (refuse NotARequest)) (refuse RegisterDamaged)

  -- the answers are the same
  pub billed-same : (x : Call) → billed_of r x ≡ billed_of s x
  unfolding billed_of
  billed-same x = ap (λ (d : Due). billed_by d x.price) (due-same x)

  pub owed_same : (customer : ℕ) → owed_of r customer ≡ owed_of s customer
  unfolding owed_of
  owed_same customer = λ i. cond (sound-same i) (Ok (record { 0 = total-same customer i })) (Err RegisterDamaged)
