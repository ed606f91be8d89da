-- Theorems on closings over other calls (document 02, (xi)): other customers notice nothing but room, and a key that its customer
-- used before counts as new. Assumes nothing.
use mathlib.Core.Path.{◌≡◌, refl, sym, ◌∙◌, ap, ap₂}
use mathlib.Core.Bool.{Bool, true, false, cond}
use Prim.Native.Nat.{ℕ, ◌≤◌, ◌<◌}
use native.Mathlib.Omega.{arith}
use borrow.Author.Tests.{lt-ltb, eq-eqb}
use Rattle.laws.proofs.Sums.{sum-term}
use Rattle.laws.proofs.Tests.{never}
use Rattle.quantity.specs.Keys.{key_shape}
use Rattle.quantity.specs.Quantities.{priced}
use Rattle.quantity.specs.declared.refusals.Refusal.{Refusal}
use Rattle.quantity.specs.declared.refusals.Refusal.TheVariants.{RegisterFull, RegisterDamaged}
use Rattle.rating.specs.declared.sheets.Sheet.{Sheet}
use Rattle.rating.specs.Sheets.{rated_of}
use Rattle.entry.specs.declared.entries.Entry.{Entry}
use Rattle.register.specs.declared.registers.Register.{Register}
use Rattle.entry.specs.Entries.{same_key, Call, entry_of}
use Rattle.register.specs.Registers.{entry_at, sound, known, held, due_of, billed_of, owed_of}
use Rattle.register.specs.Registers.Due.{refuse}
use Rattle.ledger.specs.Closings.{without, closed_of}
use Rattle.ledger.specs.Histories.{History, used, in_use, Calls, left, told}
use Rattle.ledger.specs.Histories.Calls.{close}
use Rattle.ledger.proofs.Asked.{new-charged, count_left}
use Rattle.register.proofs.Dues.{due-shape, due-refused, due-price, place-held, place-known, place-free, unknown-held}
use Rattle.ledger.proofs.Grown.{customer-kept}
use Rattle.ledger.proofs.Histories.{left-most, left-closed, since-own, billed-is, used-known}
use Rattle.ledger.proofs.Moves.{theirs, closed_is, closed-not, others_most}
use Rattle.ledger.proofs.Rest.{without-sound, count-without, known-others, held-others, total-others}
use Rattle.register.proofs.Seen.{Taken, Why, Seen, seen, placed}
use Rattle.register.proofs.Seen.Why.{damaged, misshapen, unrated, dear, other, crowded}
use Rattle.register.proofs.Seen.Seen.{turned, retried, added}
use Rattle.register.proofs.Soundness.{sound_most}
use Rattle.laws.proofs.Ranges.{any_some, Some}
use Rattle.entry.proofs.Texts.{key-same}
use Rattle.std.specs.Prelude.{Ok, Err}

-- ---- other customers

-- "Other customers' totals .. are the same before and after", whatever the register
pub others-owed : (r : Register) (c customer : ℕ) → (c ≡ customer → ⊥) → owed_of (closed_of r c) customer ≡ owed_of r customer
unfolding owed_of
others-owed r c customer differ = go (sound r) refl
  where
    go : (b : Bool) → sound r ≡ b → owed_of (closed_of r c) customer ≡ owed_of r customer
    go true q =
        ap (λ (s : Register). owed_of s customer) (closed_is r c q)
        ∙ ap₂ (λ (b : Bool) (n : ℕ). cond b (Ok (record { 0 = n })) (Err RegisterDamaged)) (without-sound r c q ∙ sym q)
        (total-others r c (sound_most r q) customer differ)
    go false q = ap (λ (s : Register). owed_of s customer) (closed-not r c q)

-- so is every answer to their calls, retries and 17 among them; only 18 may become the charge of a new key
module _ (r : Register) (c : ℕ) (x : Call) (differ : x.customer ≡ c → ⊥) where
  abbrev e : Entry
  e = entry_of x

  apart : e.customer ≡ c → ⊥
  apart q = differ (sym (customer-kept x) ∙ q)

  -- of a sound register
  module _ (q : sound r ≡ true) where
    abbrev after : Register
    after = without r c

    knows : known after e ≡ known r e
    knows = known-others r c (sound_most r q) e apart

    holds : held after e ≡ held r e
    holds = held-others r c (sound_most r q) e apart

    fewer : after.count ≤ r.count
    unfolding without
    fewer = others_most c r r.count

    still : {sheet : Sheet} → Taken r x sheet → Taken after x sheet
    still t = record { whole = without-sound r c q; shape = t.shape; rated = t.rated; price = t.price }

    why-same : (n : Refusal) → Why r x n → (n ≡ RegisterFull → ⊥) → due_of after x ≡ refuse n
    why-same n (damaged f) g = absurd (never q f)
    why-same n (misshapen t f) g = due-shape after x (without-sound r c q) f
    why-same n (unrated t k f) g = due-refused after x (without-sound r c q) k n f
    why-same n (dear {sheet} t k f p) g = due-price after x (without-sound r c q) k sheet f p
    why-same n (other {sheet} t h k) g = placed after x sheet (still t) ∙ place-known after e sheet (holds ∙ h) (knows ∙ k)
    why-same n (crowded t k m) g = absurd (g refl)

    due-others : (billed_of r x ≡ Err RegisterFull → ⊥) → due_of after x ≡ due_of r x
    due-others f = go (seen r x)
      where
        go : Seen r x → due_of after x ≡ due_of r x
        go (turned n w d) = why-same n w (λ p. f (billed-is r x d ∙ ap Err p)) ∙ sym d
        go (retried sheet t h d) = placed after x sheet (still t) ∙ place-held after e sheet (holds ∙ h) ∙ sym d
        go (added sheet t k room d) =
            placed after x sheet (still t)
            ∙ place-free after e sheet (unknown-held after e (knows ∙ k)) (knows ∙ k) (lt-ltb after.count 512 (omega (arith, fewer)))
            ∙ sym d

  pub others-billed : (billed_of r x ≡ Err RegisterFull → ⊥) → billed_of (closed_of r c) x ≡ billed_of r x
  others-billed f = go (sound r) refl
    where
      go : (b : Bool) → sound r ≡ b → billed_of (closed_of r c) x ≡ billed_of r x
      go true q =
          ap (λ (s : Register). billed_of s x) (closed_is r c q) ∙ billed-is (without r c) x (due-others q f) ∙ sym (billed-is r x refl)
      go false q = ap (λ (s : Register). billed_of s x) (closed-not r c q)

-- ---- the customer's own keys

-- "a key used before it counts as new"
pub closed-new : (h : Calls) (x : Call) → in_use (told (close h x.customer)) x ≡ false
unfolding used
closed-new h x = ap (λ (g : History). used g x) (since-own h x.customer x.customer refl)

-- the closing of a key in use makes room
freed : (h : Calls) (x : Call) → key_shape x.key ≡ true → in_use (told h) x ≡ true → (left (close h x.customer)).count < 512
unfolding known
freed h x shape inside =
    omega (
      arith,
      ap (λ (r : Register). r.count) (left-closed h c),
      count-without (left h) c (left-most h),
      sum-term (λ i. cond (theirs c (entry_at (left h) i)) 1 0) (left h).count i.at i.below,
      one,
      left-most h,
    )
  where
    c : ℕ
    c = x.customer

    i : Some (λ j. same_key (entry_at (left h) j) (entry_of x)) (left h).count
    i = any_some (λ j. same_key (entry_at (left h) j) (entry_of x)) (left h).count (sym (used-known h x shape) ∙ inside)

    own : theirs x.customer (entry_at (left h) i.at) ≡ true
    own =
        eq-eqb (entry_at (left h) i.at).customer x.customer
        ((key-same (entry_at (left h) i.at) (entry_of x) i.passes).0 ∙ customer-kept x)

    one : ◌≡◌ {A = ℕ} (cond (theirs x.customer (entry_at (left h) i.at)) 1 0) 1
    one = ap (λ (b : Bool). cond {A = ℕ} b 1 0) own

-- so that it is entered and charged again, at its new price
pub closed-charged : (h : Calls) (x : Call) (sheet : Sheet) → key_shape x.key ≡ true → rated_of x.kind x.set ≡ Ok sheet
    → priced x.price ≡ true → in_use (told h) x ≡ true → billed_of (left (close h x.customer)) x ≡ Ok (record { sheet = sheet; charged = record { 0 = x.price } })
closed-charged h x sheet shape rated price inside =
    new-charged (close h x.customer) x sheet shape rated price (closed-new h x) (omega (arith, freed h x shape inside, count_left (close h x.customer)))
