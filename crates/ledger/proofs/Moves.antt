-- How the entries of others move together: no place gone through, one place more, and what a closing leaves in the end.
-- Assumes nothing.
use mathlib.Core.Path.{◌≡◌, refl, sym, ◌∙◌, ap}
use mathlib.Core.Bool.{Bool, true, false, cond}
use mathlib.Core.List.{List, [], ◌∷◌, ◌++◌, append_assoc}
use Prim.Native.Nat.{ℕ, zero, suc, ◌+◌, ◌-◌, ◌≤◌, ◌<◌}
use native.Mathlib.Nat.{sub_self, add-zero}
use native.Mathlib.Numerals.{add-one}
use native.Mathlib.Omega.{arith}
use borrow.Author.Tests.{eq-eqb, ne_eqb}
use lib.Dec.{eqb}
use lib.ListN.{length, get_or, set, replicate, drop, length-append, length-replicate}
use lib.Seq.{get_or-append_right, get_or-drop, drop-cons, append_snoc, set_at, set-append_seam}
use Rattle.laws.proofs.Tests.{refuted, clash}
use Rattle.quantity.specs.declared.refusals.Refusal.{Refusal}
use Rattle.entry.specs.declared.entries.Entry.{Entry}
use Rattle.register.specs.declared.registers.Register.{Register}
use Rattle.entry.specs.Entries.{no_entry}
use Rattle.register.specs.Registers.{past_end, entry_at, sound, total_in, owed_of}
use Rattle.ledger.specs.Closings.{others, moved_to, without, closed_of}
use Rattle.register.proofs.Soundness.{owed-total}
use Rattle.std.specs.Prelude.{Err}

-- the entry is this customer's
abbrev pub theirs : ℕ → Entry → Bool
theirs customer e = eqb e.customer customer

-- ---- places of zeros between two parts
module _ {A : Type 0} (z : A) where
  before-zeros : (m : ℕ) (t : List A) → replicate m z ++ (z ∷ t) ≡ z ∷ (replicate m z ++ t)
  before-zeros zero t = refl
  before-zeros (suc m) t = ap (λ (l : List A). z ∷ l) (before-zeros m t)

  -- place n is cleared: one place of zeros more
  cleared : (s t : List A) (e : A) (n : ℕ) → length s ≤ n
      → set (s ++ (replicate (n - length s) z ++ (e ∷ t))) n z ≡ s ++ (replicate (suc n - length s) z ++ t)
  cleared s t e n h =
      let m = n - length s in
      let k : suc m ≡ suc n - length s = omega arith in
      ap (λ (l : List A). set l n z) (sym (append_assoc s (replicate m z) (e ∷ t)))
      ∙ set_at (s ++ replicate m z) e t z n (length-append s (replicate m z) ∙ omega (arith, length-replicate m z))
      ∙ append_assoc s (replicate m z) (z ∷ t)
      ∙ ap (λ (l : List A). s ++ l) (before-zeros m t)
      ∙ ap (λ (j : ℕ). s ++ (replicate j z ++ t)) k

  -- and the first place after s is stored to: one more before the zeros
  stored : (s t : List A) (v : A) (n : ℕ) → length s ≤ n
      → set (s ++ (replicate (suc n - length s) z ++ t)) (length s) v ≡ (s ++ (v ∷ [])) ++ (replicate (suc n - length (s ++ (v ∷ []))) z ++ t)
  stored s t v n h =
      let m = n - length s in
      let k : suc n - length s ≡ suc m = omega arith in
      let e : m ≡ suc n - length (s ++ (v ∷ [])) = omega (arith, length-append s (v ∷ [])) in
      ap (λ (j : ℕ). set (s ++ (replicate j z ++ t)) (length s) v) k
      ∙ set-append_seam s z (replicate m z ++ t) v
      ∙ sym (append_snoc s v (replicate m z ++ t))
      ∙ ap (λ (j : ℕ). (s ++ (v ∷ [])) ++ (replicate j z ++ t)) e

-- ---- the first n places gone through
module _ (customer : ℕ) (r : Register) where
  pub others-goes : (n : ℕ) → theirs customer (entry_at r n) ≡ true → others customer r (suc n) ≡ others customer r n
  unfolding others
  others-goes n q = rw q

  pub others-stays : (n : ℕ) → theirs customer (entry_at r n) ≡ false → others customer r (suc n) ≡ others customer r n ++ (entry_at r n ∷ [])
  unfolding others
  others-stays n q = rw q

  pub others_most : (n : ℕ) → length (others customer r n) ≤ n
  unfolding others
  others_most zero = omega arith
  others_most (suc n) = go (others_most n) (theirs customer (entry_at r n))
    where
      go : length (others customer r n) ≤ n → (b : Bool) → length (cond b (others customer r n) (others customer r n ++ (entry_at r n ∷ []))) ≤ suc n
      go h true = omega arith
      go h false = omega (arith, length-append (others customer r n) (entry_at r n ∷ []))

  -- one place more
  module _ (n : ℕ) (h : n < length r.entries) where
    gone : set (moved_to customer r n) n no_entry
        ≡ others customer r n ++ (replicate (suc n - length (others customer r n)) no_entry ++ drop (suc n) r.entries)
    unfolding moved_to
    gone =
        rw (drop-cons r.entries n past_end h)
        (cleared no_entry (others customer r n) (drop (suc n) r.entries) (entry_at r n) n (others_most n))

    -- the entry that is gone through next stands where it stood
    pub moved_at : get_or (moved_to customer r n) n past_end ≡ entry_at r n
    unfolding moved_to
    moved_at =
        let m : length (others customer r n) ≤ n = others_most n in
        let k = n - length (others customer r n) in
        get_or-append_right (others customer r n) (replicate k no_entry ++ drop n r.entries) n past_end m
        ∙ get_or-append_right (replicate k no_entry) (drop n r.entries) k past_end (omega (arith, length-replicate k no_entry))
        ∙ rw (length-replicate k no_entry, sub_self, get_or-drop, add-zero) refl

    -- where the first free place comes after the others
    module _ (free : ℕ) (l : List Entry) (z : Entry) (f : free ≡ length (others customer r n)) (e : l ≡ moved_to customer r n) (p : z ≡ no_entry) where
      here : get_or l n past_end ≡ entry_at r n
      here = ap (λ (t : List Entry). get_or t n past_end) e ∙ moved_at

      -- an entry of the customer goes
      pub moved-goes : (get_or l n past_end).customer ≡ customer
          → (free ≡ length (others customer r (n + 1))) × (set l n z ≡ moved_to customer r (n + 1))
      unfolding moved_to
      moved-goes q =
          let t = eq-eqb (entry_at r n).customer customer (ap (λ (v : Entry). v.customer) (sym here) ∙ q) in
          rw (add-one n, others-goes n t) (f, rw (e, p) gone)

      -- one of another takes that place
      pub moved-stays : ((get_or l n past_end).customer ≡ customer → ⊥)
          → (free + 1 ≡ length (others customer r (n + 1))) × (set (set l n z) free (get_or l n past_end) ≡ moved_to customer r (n + 1))
      unfolding moved_to
      moved-stays q =
          let t = ne_eqb (entry_at r n).customer customer (λ u. q (ap (λ (v : Entry). v.customer) here ∙ u)) in
          rw (add-one n, others-stays n t) (
            omega (arith, length-append (others customer r n) (entry_at r n ∷ [])),
            rw (here, e, p, f, gone) (stored no_entry (others customer r n) (drop (suc n) r.entries) (entry_at r n) n (others_most n)),
          )

-- ---- a closing
module _ (r : Register) (customer : ℕ) where
  pub closed_is : sound r ≡ true → closed_of r customer ≡ without r customer
  unfolding closed_of
  closed_is whole = rw whole

  pub closed-not : sound r ≡ false → closed_of r customer ≡ r
  unfolding closed_of
  closed-not broken = rw broken

  refused-damaged : (f : Refusal) → owed_of r customer ≡ Err f → sound r ≡ false
  refused-damaged f e =
      refuted (sound r)
      (λ h.
      let d = owed-total r customer (record { 0 = total_in r customer }) h refl in
      clash cc)

  -- "Refusals: 19, the register unchanged"
  pub closed-refused : (f : Refusal) → owed_of r customer ≡ Err f → closed_of r customer ≡ r
  closed-refused f e = closed-not (refused-damaged f e)
