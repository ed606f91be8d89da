-- Places: entries of other words need not be compared, and an entry whose remainder no entry before it had is not repeated.
-- Assumes nothing.
use mathlib.Core.Path.{◌≡◌, sym, ◌∙◌, ap}
use mathlib.Core.Bool.{true, false, not}
use mathlib.Core.List.{List}
use Prim.Native.Nat.{ℕ, ◌+◌, ◌%◌, ◌<◌}
use native.Mathlib.Decide.{ℕ_discrete, dec_lt}
use native.Mathlib.Omega.{arith}
use lib.ListN.{length, get_or, set, length-set}
use lib.Seq.{get_or-set_same, get_or-set_other}
use Rattle.laws.specs.Tests.{all_to, any_to}
use Rattle.laws.proofs.Ranges.{all_none, all_more, all-fails, any_none, any_found, any-more}
use Rattle.entry.specs.declared.entries.Entry.{Entry}
use Rattle.entry.proofs.Keys.{word-apart}
use Rattle.register.specs.declared.registers.Register.{Register}
use Rattle.entry.specs.Entries.{same_key, word_of}
use Rattle.register.specs.Registers.{entry_at, repeated}
use Rattle.register.specs.Looks.{PlaceOf}
use Rattle.std.specs.Prelude.{Option, None, Some, is_some}

-- ---- the place of a customer and key
-- none of the first i entries has them
abbrev pub Missed : Register → Entry → ℕ → Type 0
Missed r e i = any_to (λ j. same_key (entry_at r j) e) i ≡ false

module _ (r : Register) (e : Entry) where
  pub missed-none : Missed r e 0
  missed-none = any_none (λ j. same_key (entry_at r j) e) 0 (λ j h. absurd (omega arith))

  pub missed_more : (i : ℕ) → Missed r e i → same_key (entry_at r i) e ≡ false → Missed r e (i + 1)
  missed_more i m f = any-more (λ j. same_key (entry_at r j) e) i m f

-- a place is found where one of the first n entries has them
pub place-some : (r : Register) (n : ℕ) (e : Entry) (p : Option ℕ) → PlaceOf r n e p → is_some p ≡ any_to (λ j. same_key (entry_at r j) e) n
place-some r n e None h = sym h
place-some r n e (Some at) h = sym (any_found (λ j. same_key (entry_at r j) e) n at h.0 h.1)

-- ---- no customer and key twice
-- none of the first i entries is repeated, and the remainders of their words were met
pub record Met (r : Register) (met : List ℕ) (i : ℕ) : Type 0 where
  pub whole : length met ≡ 16384
  pub fresh : all_to (λ j. not (repeated r j)) i ≡ true
  pub each : (j : ℕ) → j < i → get_or met (word_of (entry_at r j) % 16384) 0 ≡ 1

module _ (r : Register) (met : List ℕ) where
  pub met-none : length met ≡ 16384 → Met r met 0
  met-none e = record { whole = e; fresh = all_none (λ j. not (repeated r j)); each = λ j h. absurd (omega arith) }

  module _ (i w : ℕ) (e : w ≡ word_of (entry_at r i)) (m : Met r met i) where
    -- a remainder that was not met is of another word than those before
    pub met-apart : (get_or met (w % 16384) 0 ≡ 1 → ⊥) → repeated r i ≡ false
    met-apart f =
        any_none (λ j. same_key (entry_at r j) (entry_at r i)) i (λ j h.
        word-apart (entry_at r j) (entry_at r i) (λ s. f (ap (λ (v : ℕ). get_or met (v % 16384) 0) (e ∙ sym s) ∙ m.each j h)))

    pub met-more : repeated r i ≡ false → Met r (set met (w % 16384) 1) (i + 1)
    met-more f =
        record {
          whole = length-set met (w % 16384) 1 ∙ m.whole;
          fresh = all_more (λ j. not (repeated r j)) i m.fresh (ap not f);
          each = λ j h. at j (dec_lt j i) (ℕ_discrete (word_of (entry_at r j) % 16384) (w % 16384)) h;
        }
      where
        at : (j : ℕ) → Dec (j < i) → Dec (word_of (entry_at r j) % 16384 ≡ w % 16384) → j < i + 1
            → get_or (set met (w % 16384) 1) (word_of (entry_at r j) % 16384) 0 ≡ 1
        at j d (yes q) h = ap (λ (s : ℕ). get_or (set met (w % 16384) 1) s 0) q ∙ get_or-set_same met (w % 16384) 1 0 (omega (arith, m.whole))
        at j (yes p) (no q) h = get_or-set_other met (w % 16384) (word_of (entry_at r j) % 16384) 1 0 q ∙ m.each j p
        at j (no p) (no q) h =
            let s : j ≡ i = omega arith in
            absurd (q (ap (λ (k : ℕ). word_of (entry_at r k) % 16384) s ∙ ap (λ (v : ℕ). v % 16384) (sym e)))

-- an entry that is repeated
pub repeated_fails : (r : Register) (n i : ℕ) → i < n → repeated r i ≡ true → all_to (λ j. not (repeated r j)) n ≡ false
repeated_fails r n i h e = all-fails (λ j. not (repeated r j)) n i h (ap not e)
