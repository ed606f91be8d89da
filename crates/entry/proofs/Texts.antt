-- Two texts that are the same are one text, and back; so two entries of one customer and key have one customer and one key.
-- Assumes nothing.
use mathlib.Core.Path.{◌≡◌, refl, sym, ◌∙◌, ap}
use mathlib.Core.Bool.{true}
use mathlib.Core.List.{List}
use Prim.Native.Nat.{ℕ}
use borrow.Author.Tests.{eqb-true, eq-eqb}
use lib.Dec.{eqb}
use lib.ListN.{length, get_or}
use lib.Pointwise.{pointwise, bytes_decides}
use lib.Seq.{ext_get_or}
use Rattle.std.specs.Bool.{one_answer}
use Rattle.laws.proofs.Tests.{both, both-made}
use Rattle.laws.specs.Tests.{all_to}
use Rattle.laws.proofs.Ranges.{all-at, all_made}
use Rattle.entry.specs.declared.entries.Entry.{Entry}
use Rattle.entry.specs.Entries.{key_of, same_text, same_key}

-- ---- the same text
text_same : (s t : List ℕ) → same_text s t ≡ true → s ≡ t
unfolding same_text
text_same s t e =
    let h = both (eqb (length s) (length t)) (all_to (λ i. eqb (get_or s i 0) (get_or t i 0)) (length s)) e in
    ext_get_or 0 s t (eqb-true (length s) (length t) h.0)
    (λ i p. eqb-true (get_or s i 0) (get_or t i 0) (all-at (λ j. eqb (get_or s j 0) (get_or t j 0)) (length s) h.1 i p))

text-refl : (s : List ℕ) → same_text s s ≡ true
unfolding same_text
text-refl s =
    both-made (eq-eqb (length s) (length s) refl)
    (all_made (λ i. eqb (get_or s i 0) (get_or s i 0)) (length s) (λ i p. eq-eqb (get_or s i 0) (get_or s i 0) refl))

pub text-made : {s t : List ℕ} → s ≡ t → same_text s t ≡ true
text-made {s} e = ap (same_text s) (sym e) ∙ text-refl s

-- as slices are compared
pub text_eq : (s t : List ℕ) → pointwise eqb s t ≡ same_text s t
text_eq s t = one_answer _ (same_text s t) (bytes_decides s t) (text_same s t, text-made)

-- ---- one customer and key
pub key-same : (e f : Entry) → same_key e f ≡ true → (e.customer ≡ f.customer) × (key_of e ≡ key_of f)
unfolding same_key
key-same e f h =
    let b = both (eqb e.customer f.customer) (same_text (key_of e) (key_of f)) h in
    (eqb-true e.customer f.customer b.0, text_same (key_of e) (key_of f) b.1)

pub key-made : (e f : Entry) → e.customer ≡ f.customer → key_of e ≡ key_of f → same_key e f ≡ true
unfolding same_key
key-made e f c k = both-made (eq-eqb e.customer f.customer c) (text-made k)

pub key-sym : (e f : Entry) → same_key e f ≡ true → same_key f e ≡ true
key-sym e f h = let s = key-same e f h in key-made f e (sym s.0) (sym s.1)

pub key-trans : (e f g : Entry) → same_key e f ≡ true → same_key f g ≡ true → same_key e g ≡ true
key-trans e f g h k =
    let s = key-same e f h in
    let t = key-same f g k in
    key-made e g (s.0 ∙ t.0) (s.1 ∙ t.1)
