-- The word of a customer and key, byte after byte: another word, another customer or key. Assumes nothing.
use mathlib.Core.Path.{◌≡◌, refl, sym, ◌∙◌, ap, ap₂}
use mathlib.Core.Bool.{true, false}
use mathlib.Core.List.{List}
use Prim.Native.Nat.{ℕ, zero, suc, ◌+◌, ◌*◌, ◌%◌, ◌≤◌}
use native.Mathlib.Numerals.{add-one}
use native.Mathlib.Omega.{arith}
use lib.ListN.{length, get_or, take}
use lib.Seq.{take_all}
use Rattle.std.specs.List.{fold}
use Rattle.std.proofs.lemmas.List.Sums.{fold_more}
use Rattle.laws.proofs.Tests.{refuted}
use Rattle.entry.specs.declared.entries.Entry.{Entry}
use Rattle.entry.specs.Entries.{same_key, word_to, word_of}
use Rattle.entry.proofs.Texts.{key-same}

-- one byte more
abbrev pub next : ℕ → ℕ → ℕ
next w b = (w * 33 % 4294967296 + b) % 4294967296

next-is : (w b : ℕ) → next w b ≡ (w * 33 + b) % 4294967296
next-is w b = omega arith

module _ (customer : ℕ) (key : List ℕ) where
  word-taken : (i : ℕ) → i ≤ length key → fold next (customer % 4294967296) (take i key) ≡ word_to customer key i
  unfolding word_to
  word-taken zero h = refl
  word-taken (suc i) h =
      ap (λ (j : ℕ). fold next (customer % 4294967296) (take j key)) (sym (add-one i))
      ∙ fold_more next (customer % 4294967296) key i 0 h
      ∙ next-is _ (get_or key i 0)
      ∙ ap (λ (w : ℕ). (w * 33 + get_or key i 0) % 4294967296) (word-taken i (omega arith))

  pub word_fold : fold next (customer % 4294967296) key ≡ word_to customer key (length key)
  word_fold = ap (fold next (customer % 4294967296)) (sym (take_all (length key) key (omega arith))) ∙ word-taken (length key) (omega arith)

pub word_same : (e f : Entry) → same_key e f ≡ true → word_of e ≡ word_of f
unfolding word_of
word_same e f h =
    let s = key-same e f h in
    ap₂ (λ (c : ℕ) (k : List ℕ). word_to c k (length k)) s.0 s.1

-- another word, another customer or key
pub word-apart : (e f : Entry) → (word_of e ≡ word_of f → ⊥) → same_key e f ≡ false
word-apart e f h = refuted (same_key e f) (λ s. h (word_same e f s))
