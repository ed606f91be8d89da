-- Registers that differ only in what never matters stay so under every bill and every closing. Assumes nothing.
use mathlib.Core.Path.{◌≡◌, refl, sym, ◌∙◌, ap, subst, subst⁻¹}
use mathlib.Core.Bool.{true, false, Bool}
use Prim.Native.Nat.{ℕ, zero, suc, ◌+◌, ◌≤◌, ◌<◌}
use native.Mathlib.Nat.{le_refl}
use native.Mathlib.Omega.{arith}
use lib.Dec.{eqb}
use lib.ListN.{length}
use Rattle.entry.specs.declared.entries.Entry.{Entry}
use Rattle.register.specs.declared.registers.Register.{Register}
use Rattle.entry.specs.Entries.{Call, entry_of}
use Rattle.register.specs.Registers.{opened, entry_at, sound, with_entry, due_of, after_by, after_of, Due}
use Rattle.ledger.specs.Closings.{without, closed_of}
use Rattle.ledger.specs.Histories.{SameEntry, SameRegister}
use Rattle.ledger.proofs.Grown.{each_to, entry_old, entry_new}
use Rattle.ledger.proofs.Histories.{after_is}
use Rattle.ledger.proofs.Moves.{theirs, closed_is, closed-not}
use Rattle.ledger.proofs.Rest.{rest, rest_goes, rest-stays, room, without-count, without_at}
use Rattle.register.proofs.Soundness.{sound_most}
use Rattle.ledger.proofs.Sameness.{same-entry, sound-same, due-same}
use Rattle.register.proofs.Seen.{Seen, seen}
use Rattle.register.proofs.Seen.Seen.{turned, retried, added}

-- one more entry on both
with-same : (r s : Register) (e f : Entry) → SameRegister r s → SameEntry e f → r.count < length r.entries → s.count < length s.entries
    → SameRegister (with_entry r e) (with_entry s f)
unfolding with_entry
with-same r s e f a b h g = record { count = ap (λ (n : ℕ). n + 1) a.count; entries = each_to (λ i. SameEntry (entry_at (with_entry r e) i) (entry_at (with_entry s f) i)) r.count before last }
  where
    last : SameEntry (entry_at (with_entry r e) r.count) (entry_at (with_entry s f) r.count)
    last =
        subst⁻¹ (λ (j : ℕ). SameEntry (entry_at (with_entry r e) r.count) (entry_at (with_entry s f) j)) a.count
        (subst⁻¹ (λ (d : Entry). SameEntry d (entry_at (with_entry s f) s.count)) (entry_new r e h)
        (subst⁻¹ (λ (d : Entry). SameEntry e d) (entry_new s f g) b))

    before : (i : ℕ) → i < r.count → SameEntry (entry_at (with_entry r e) i) (entry_at (with_entry s f) i)
    before i q =
        subst⁻¹ (λ (d : Entry). SameEntry d (entry_at (with_entry s f) i)) (entry_old r e i q)
        (subst⁻¹ (λ (d : Entry). SameEntry (entry_at r i) d) (entry_old s f i (omega (arith, a.count))) (a.entries i q))

pub after_same : (r s : Register) (x : Call) → SameRegister r s → length r.entries ≡ 512 → length s.entries ≡ 512 → SameRegister (after_of r x) (after_of s x)
after_same r s x a h g = go (seen r x)
  where
    kept : {d : Due} → due_of r x ≡ d → after_by d r (entry_of x) ≡ r → after_by d s (entry_of x) ≡ s → SameRegister (after_of r x) (after_of s x)
    kept {d} q e f =
        subst⁻¹ (λ (u : Register). SameRegister u (after_of s x)) (after_is r x q ∙ e)
        (subst⁻¹ (λ (u : Register). SameRegister r u) (after_is s x (sym (due-same a x) ∙ q) ∙ f) a)

    go : Seen r x → SameRegister (after_of r x) (after_of s x)
    go (turned n w d) = kept d refl refl
    go (retried sheet t k d) = kept d refl refl
    go (added sheet t k room d) =
        subst⁻¹ (λ (u : Register). SameRegister u (after_of s x)) (after_is r x d)
        (subst⁻¹ (λ (u : Register). SameRegister (with_entry r (entry_of x)) u) (after_is s x (sym (due-same a x) ∙ d))
        (with-same r s (entry_of x) (entry_of x) a (same-entry (entry_of x)) (omega (arith, h)) (omega (arith, g, a.count))))

-- a closing of both
module _ (customer : ℕ) (r s : Register) (a : SameRegister r s) where
  rest-same : (n : ℕ) → n ≤ r.count → n ≤ 512 → SameRegister (rest customer r n) (rest customer s n)
  unfolding rest opened
  rest-same zero h g = record { count = refl; entries = λ i p. same-entry (entry_at opened i) }
  rest-same (suc n) h g = go (rest-same n (omega arith) (omega arith)) (theirs customer (entry_at r n)) refl
    where
      theirs-same : theirs customer (entry_at r n) ≡ theirs customer (entry_at s n)
      theirs-same = ap (λ (c : ℕ). eqb c customer) (a.entries n h).customer

      both_ways : {p q : Register} → rest customer r (suc n) ≡ p → rest customer s (suc n) ≡ q → SameRegister p q → SameRegister (rest customer r (suc n)) (rest customer s (suc n))
      both_ways {p} {q} e f b = subst⁻¹ (λ (u : Register). SameRegister u (rest customer s (suc n))) e (subst⁻¹ (SameRegister p) f b)

      go : SameRegister (rest customer r n) (rest customer s n) → (b : Bool) → theirs customer (entry_at r n) ≡ b
          → SameRegister (rest customer r (suc n)) (rest customer s (suc n))
      go before true q = both_ways (rest_goes customer r n q) (rest_goes customer s n (sym theirs-same ∙ q)) before
      go before false q =
          both_ways (rest-stays customer r n q) (rest-stays customer s n (sym theirs-same ∙ q))
          (with-same (rest customer r n) (rest customer s n) (entry_at r n) (entry_at s n) before (a.entries n h) (room customer r n g) (room customer s n g))

  without-same : r.count ≤ 512 → SameRegister (without r customer) (without s customer)
  without-same most = record {
    count = without-count r customer most ∙ ends.count ∙ sym (without-count s customer (omega (arith, a.count)));
    entries = λ i h. subst⁻¹ (λ (e : Entry). SameEntry e (entry_at (without s customer) i)) (without_at r customer most i h)
        (subst⁻¹ (SameEntry (entry_at (rest customer r r.count) i)) (there i h) (ends.entries i (omega (arith, without-count r customer most))));
  }
    where
      ends : SameRegister (rest customer r r.count) (rest customer s s.count)
      ends = subst (λ (n : ℕ). SameRegister (rest customer r r.count) (rest customer s n)) a.count (rest-same r.count (le_refl r.count) most)

      there : (i : ℕ) → i < (without r customer).count → entry_at (without s customer) i ≡ entry_at (rest customer s s.count) i
      there i h =
          without_at s customer (omega (arith, a.count)) i
          (omega (arith, without-count r customer most, ends.count, without-count s customer (omega (arith, a.count))))

  pub closed_same : SameRegister (closed_of r customer) (closed_of s customer)
  closed_same = go (sound r) refl
    where
      go : (b : Bool) → sound r ≡ b → SameRegister (closed_of r customer) (closed_of s customer)
      go true q =
          subst⁻¹ (λ (u : Register). SameRegister u (closed_of s customer)) (closed_is r customer q)
          (subst⁻¹ (SameRegister (without r customer)) (closed_is s customer (sym (sound-same a) ∙ q)) (without-same (sound_most r q)))
      go false q =
          subst⁻¹ (λ (u : Register). SameRegister u (closed_of s customer)) (closed-not r customer q)
          (subst⁻¹ (SameRegister r) (closed-not s customer (sym (sound-same a) ∙ q)) a)
