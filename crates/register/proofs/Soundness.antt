-- What makes a register sound: each test of the code in order, and what a sound register says of its entries. Assumes nothing.
use mathlib.Core.Path.{◌≡◌, refl, sym, ◌∙◌, ap}
use mathlib.Core.Bool.{Bool, true, false, ◌&&◌, not}
use Prim.Native.Nat.{ℕ, zero, suc, ◌+◌, ◌≤◌, ◌<◌}
use native.Mathlib.Decide.{dec_lt}
use native.Mathlib.Omega.{arith}
use borrow.Author.Tests.{leb-true, le-leb, lt-leb, not-true}
use lib.Dec.{eqb, leb}
use Rattle.laws.proofs.Tests.{never, left-fails, right-fails, both, both-made}
use Rattle.laws.specs.Sums.{sum_to}
use Rattle.laws.proofs.Sums.{sum_bound}
use Rattle.std.specs.List.{sum_by}
use Rattle.std.proofs.lemmas.List.Sums.{sum_by_more}
use lib.ListN.{length, take}
use native.Mathlib.Numerals.{add-one}
use Rattle.quantity.specs.declared.quantities.Fen.{Fen}
use Rattle.quantity.specs.declared.refusals.Refusal.TheVariants.{RegisterDamaged}
use Rattle.laws.specs.Tests.{all_to}
use Rattle.laws.proofs.Ranges.{all-at, any_found}
use Rattle.entry.specs.declared.entries.Entry.{Entry}
use Rattle.entry.proofs.Oks.{ok-short, ok-priced}
use Rattle.register.specs.declared.registers.Register.{Register}
use Rattle.entry.specs.Entries.{same_key, entry_ok}
use Rattle.register.specs.Registers.{past_end, entry_at, repeated, sound, price_for, total_in, owed_of}
use Rattle.register.specs.Looks.{Short}
use Rattle.entry.proofs.Texts.{key-sym}
use Rattle.std.specs.Prelude.{Ok, Err}

-- ---- a register, by the tests of the code in order
pub shorts : (r : Register) (n : ℕ) → all_to (λ i. entry_ok (entry_at r i)) n ≡ true → Short r n
shorts r n h i p = ok-short (entry_at r i) (all-at (λ j. entry_ok (entry_at r j)) n h i p)

module _ (r : Register) where
  pub many-unsound : 512 < r.count → sound r ≡ false
  unfolding sound
  many-unsound h =
      sym (left-fails (all_to (λ i. entry_ok (entry_at r i)) r.count && all_to (λ i. not (repeated r i)) r.count) (lt-leb r.count 512 h))

  pub bad-unsound : all_to (λ i. entry_ok (entry_at r i)) r.count ≡ false → sound r ≡ false
  unfolding sound
  bad-unsound h = sym (right-fails (leb r.count 512) (sym (left-fails (all_to (λ i. not (repeated r i)) r.count) h)))

  pub twice-unsound : all_to (λ i. not (repeated r i)) r.count ≡ false → sound r ≡ false
  unfolding sound
  twice-unsound h = sym (right-fails (leb r.count 512) (sym (right-fails (all_to (λ i. entry_ok (entry_at r i)) r.count) h)))

  pub sound-made : (n : ℕ) → n ≡ r.count → r.count ≤ 512 → all_to (λ i. entry_ok (entry_at r i)) n ≡ true
      → all_to (λ i. not (repeated r i)) n ≡ true → sound r ≡ true
  unfolding sound
  sound-made n e h g f = rw (← e) (both-made (le-leb n 512 (omega arith)) (both-made g f))

-- ---- what a sound register is
module _ (r : Register) (h : sound r ≡ true) where
  parts : (leb r.count 512 ≡ true) × (all_to (λ i. entry_ok (entry_at r i)) r.count && all_to (λ i. not (repeated r i)) r.count ≡ true)
  unfolding sound
  parts = both (leb r.count 512) (all_to (λ i. entry_ok (entry_at r i)) r.count && all_to (λ i. not (repeated r i)) r.count) h

  pub sound_most : r.count ≤ 512
  sound_most = leb-true r.count 512 parts.0

  pub all-ok : all_to (λ i. entry_ok (entry_at r i)) r.count ≡ true
  all-ok = (both (all_to (λ i. entry_ok (entry_at r i)) r.count) (all_to (λ i. not (repeated r i)) r.count) parts.1).0

  pub all_apart : all_to (λ i. not (repeated r i)) r.count ≡ true
  all_apart = (both (all_to (λ i. entry_ok (entry_at r i)) r.count) (all_to (λ i. not (repeated r i)) r.count) parts.1).1

  pub sound_short : Short r r.count
  sound_short = shorts r r.count all-ok

  pub sound-priced : (i : ℕ) → i < r.count → (entry_at r i).price.0 ≤ 1000000
  sound-priced i p = ok-priced (entry_at r i) (all-at (λ j. entry_ok (entry_at r j)) r.count all-ok i p)

  pub sound-fresh : (i : ℕ) → i < r.count → repeated r i ≡ false
  sound-fresh i p =
      not-true (repeated r i)
      (all-at (λ j. not (repeated r j)) r.count all_apart i p)

  before : (i j : ℕ) → i < j → j < r.count → same_key (entry_at r i) (entry_at r j) ≡ true → ⊥
  before i j p q s = never (any_found (λ k. same_key (entry_at r k) (entry_at r j)) j i p s) (sound-fresh j q)

  -- "one customer and key" are in one place
  pub sole : (i j : ℕ) → i < r.count → j < r.count → same_key (entry_at r i) (entry_at r j) ≡ true → i ≡ j
  sole i j p q s = go (dec_lt i j) (dec_lt j i)
    where
      go : Dec (i < j) → Dec (j < i) → i ≡ j
      go (yes a) d = absurd (before i j a q s)
      go (no a) (yes b) = absurd (before j i b p (key-sym (entry_at r i) (entry_at r j) s))
      go (no a) (no b) = omega arith

-- ---- prices
module _ (customer : ℕ) (e : Entry) where
  price-most : e.price.0 ≤ 1000000 → price_for customer e ≤ 1000000
  unfolding price_for
  price-most h = go (eqb e.customer customer) refl
    where
      go : (b : Bool) → eqb e.customer customer ≡ b → price_for customer e ≤ 1000000
      go true p = rw p h
      go false p = rw p (omega arith)

module _ (r : Register) (customer : ℕ) where
  pub total-most : sound r ≡ true → total_in r customer ≤ 512000000
  unfolding total_in
  total-most h =
      omega (
        arith,
        sound_most r h,
        sum_bound (λ i. price_for customer (entry_at r i)) 1000000 r.count
            (λ i p. price-most customer (entry_at r i) (sound-priced r h i p)),
      )

  -- the sum over the entries in use, one after another
  summed : (n : ℕ) → n ≤ length r.entries → sum_by (price_for customer) (take n r.entries) ≡ sum_to (λ i. price_for customer (entry_at r i)) n
  unfolding sum_to
  summed zero h = refl
  summed (suc n) h =
      ap (λ (m : ℕ). sum_by (price_for customer) (take m r.entries)) (sym (add-one n))
      ∙ sum_by_more (price_for customer) r.entries n past_end h
      ∙ ap (λ (t : ℕ). t + price_for customer (entry_at r n)) (summed n (omega arith))

  pub total_by : r.count ≤ length r.entries → sum_by (price_for customer) (take r.count r.entries) ≡ total_in r customer
  unfolding total_in
  total_by h = summed r.count h

module _ (r : Register) (customer : ℕ) where
  pub owed-damaged : sound r ≡ false → Err RegisterDamaged ≡ owed_of r customer
  unfolding owed_of
  owed-damaged h = rw h

  pub owed-total : (t : Fen) → sound r ≡ true → t.0 ≡ total_in r customer → Ok t ≡ owed_of r customer
  unfolding owed_of
  owed-total t h e = rw h (ap (λ (n : ℕ). Ok (record { 0 = n })) e)
