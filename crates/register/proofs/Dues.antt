-- What a call comes to: by the place of its key in a sound register, then by each test of the code in order. Assumes nothing.
use mathlib.Core.Path.{◌≡◌, sym, ◌∙◌, ap}
use mathlib.Core.Bool.{true, false, ◌&&◌}
use Prim.Native.Nat.{ℕ, ◌≤◌, ◌<◌}
use borrow.Author.Tests.{lt-ltb, le-ltb}
use lib.Dec.{ltb}
use Rattle.laws.proofs.Tests.{never, refuted, both, both-made}
use Rattle.quantity.specs.Keys.{key_shape}
use Rattle.quantity.specs.Quantities.{priced}
use Rattle.quantity.specs.declared.refusals.Refusal.{Refusal}
use Rattle.quantity.specs.declared.refusals.Refusal.TheVariants.{NotARequest, PriceRange, OtherBands, RegisterFull, RegisterDamaged}
use Rattle.rating.specs.declared.sheets.Sheet.{Sheet}
use Rattle.rating.specs.Sheets.{rated_of}
use Rattle.entry.specs.declared.entries.Entry.{Entry}
use Rattle.register.specs.declared.registers.Register.{Register}
use Rattle.entry.specs.Entries.{same_key, same_bands, Call, entry_of}
use Rattle.register.specs.Registers.{entry_at, sound, known, held, place_due, due_of}
use Rattle.register.specs.Registers.Due.{refuse, repeat, enter}
use Rattle.laws.proofs.Ranges.{any_none, any_found, any-mono}
use Rattle.entry.proofs.Texts.{key-sym, key-trans}
use Rattle.register.proofs.Places.{Missed}
use Rattle.register.proofs.Soundness.{sole}
use Rattle.std.specs.Prelude.{Ok, Err}

-- ---- by what is there
module _ (r : Register) (e : Entry) (sheet : Sheet) where
  pub place-held : held r e ≡ true → place_due r e sheet ≡ repeat sheet
  unfolding place_due
  place-held h = rw h

  pub place-known : held r e ≡ false → known r e ≡ true → place_due r e sheet ≡ refuse OtherBands
  unfolding place_due
  place-known h k = rw (h, k)

  pub place-free : held r e ≡ false → known r e ≡ false → ltb r.count 512 ≡ true → place_due r e sheet ≡ enter sheet
  unfolding place_due
  place-free h k l = rw (h, k, l)

  pub place-full : held r e ≡ false → known r e ≡ false → ltb r.count 512 ≡ false → place_due r e sheet ≡ refuse RegisterFull
  unfolding place_due
  place-full h k l = rw (h, k, l)

-- what is held is known
pub held-known : (r : Register) (e : Entry) → held r e ≡ true → known r e ≡ true
unfolding held known
held-known r e =
    any-mono (λ i. same_key (entry_at r i) e && same_bands (entry_at r i) e) (λ i. same_key (entry_at r i) e) r.count
    (λ i h. (both (same_key (entry_at r i) e) (same_bands (entry_at r i) e) h).0)

pub unknown-held : (r : Register) (e : Entry) → known r e ≡ false → held r e ≡ false
unknown-held r e k = refuted (held r e) (λ h. never (held-known r e h) k)

-- ---- by the place of its key
module _ (r : Register) (e : Entry) (sheet : Sheet) where
  -- the key is there
  module _ (i : ℕ) (p : i < r.count) (s : same_key (entry_at r i) e ≡ true) where
    pub due-same : same_bands (entry_at r i) e ≡ true → place_due r e sheet ≡ repeat sheet
    unfolding held
    due-same b = place-held r e sheet (any_found (λ j. same_key (entry_at r j) e && same_bands (entry_at r j) e) r.count i p (both-made s b))

    not-held : sound r ≡ true → same_bands (entry_at r i) e ≡ false → held r e ≡ false
    unfolding held
    not-held h b =
        any_none (λ j. same_key (entry_at r j) e && same_bands (entry_at r j) e) r.count
        (λ j q. refuted (same_key (entry_at r j) e && same_bands (entry_at r j) e) (λ t. at j q (both (same_key (entry_at r j) e) (same_bands (entry_at r j) e) t)))
      where
        at : (j : ℕ) → j < r.count → (same_key (entry_at r j) e ≡ true) × (same_bands (entry_at r j) e ≡ true) → ⊥
        at j q t =
            let w = sole r h i j p q (key-trans (entry_at r i) e (entry_at r j) s (key-sym (entry_at r j) e t.0)) in
            never t.1 (ap (λ (k : ℕ). same_bands (entry_at r k) e) (sym w) ∙ b)

    pub due-other : sound r ≡ true → same_bands (entry_at r i) e ≡ false → place_due r e sheet ≡ refuse OtherBands
    unfolding known
    due-other h b = place-known r e sheet (not-held h b) (any_found (λ j. same_key (entry_at r j) e) r.count i p s)

  -- it is not
  module _ (m : Missed r e r.count) where
    absent : known r e ≡ false
    unfolding known
    absent = m

    pub due-new : r.count < 512 → place_due r e sheet ≡ enter sheet
    due-new h = place-free r e sheet (unknown-held r e absent) absent (lt-ltb r.count 512 h)

    pub due-full : 512 ≤ r.count → place_due r e sheet ≡ refuse RegisterFull
    due-full h = place-full r e sheet (unknown-held r e absent) absent (le-ltb r.count 512 h)

-- ---- by each test
module _ (r : Register) (x : Call) where
  pub due-damaged : sound r ≡ false → due_of r x ≡ refuse RegisterDamaged
  unfolding due_of
  due-damaged a = rw a

  module _ (a : sound r ≡ true) where
    pub due-shape : key_shape x.key ≡ false → due_of r x ≡ refuse NotARequest
    unfolding due_of
    due-shape b = rw (a, b)

    module _ (b : key_shape x.key ≡ true) where
      pub due-refused : (f : Refusal) → rated_of x.kind x.set ≡ Err f → due_of r x ≡ refuse f
      unfolding due_of
      due-refused f c = rw (a, b, c)

      module _ (sheet : Sheet) (c : rated_of x.kind x.set ≡ Ok sheet) where
        pub due-price : priced x.price ≡ false → due_of r x ≡ refuse PriceRange
        unfolding due_of
        due-price d = rw (a, b, c, d)

        pub due-placed : priced x.price ≡ true → due_of r x ≡ place_due r (entry_of x) sheet
        unfolding due_of
        due-placed d = rw (a, b, c, d)
