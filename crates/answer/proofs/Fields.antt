-- Fields one after another: the texts of those written so far, each behind its tab, and the line feed at the end.
-- Assumes nothing.
use mathlib.Core.Path.{◌≡◌, refl, sym, ◌∙◌, ap}
use mathlib.Core.List.{List, [], ◌∷◌, ◌++◌, append_assoc, append-nil}
use Prim.Native.Nat.{ℕ, ◌+◌, ◌-◌, ◌≤◌, ◌<◌}
use native.Mathlib.Omega.{arith}
use native.Mathlib.Numerals.{add-one}
use lib.IntN.{ℤ}
use lib.ListN.{length, get_or, take, drop, set, length-append, take-append-drop}
use lib.Seq.{take-suc, take_all}
use borrow.Rule.Slice.PartMut.{put_mid, mid_of}
use Rattle.answer.specs.declared.texts.Field.{Field}
use Rattle.answer.specs.declared.texts.Field.TheVariants.{Number, Count, Sign, Nothing}
use Rattle.answer.specs.Texts.{tab, line_feed, decimal, number_text, others, field_texts, texts_of, tabbed}
use Rattle.laws.specs.Lists.{front}
use Rattle.laws.proofs.Fronts.{front-more, tail-home}

texts-append : (a b : List Field) → texts_of (a ++ b) ≡ texts_of a ++ texts_of b
unfolding texts_of
texts-append [] b = refl
texts-append (f ∷ a) b = ap (λ (r : List (List ℕ)). field_texts f ++ r) (texts-append a b) ∙ sym (append_assoc (field_texts f) (texts_of a) (texts_of b))

texts-one : (f : Field) → texts_of (f ∷ []) ≡ field_texts f
unfolding texts_of
texts-one f = append-nil (field_texts f)

tabbed-append : (a b : List (List ℕ)) → tabbed (a ++ b) ≡ tabbed a ++ tabbed b
unfolding tabbed
tabbed-append [] b = refl
tabbed-append (t ∷ a) b = ap (λ (r : List ℕ). tab ∷ (t ++ r)) (tabbed-append a b) ∙ ap (λ (r : List ℕ). tab ∷ r) (sym (append_assoc t (tabbed a) (tabbed b)))

others-tabbed : (ts : List (List ℕ)) → others ts ≡ tabbed ts ++ (line_feed ∷ [])
unfolding others tabbed
others-tabbed [] = refl
others-tabbed (t ∷ ts) = ap (λ (r : List ℕ). tab ∷ (t ++ r)) (others-tabbed ts) ∙ ap (λ (r : List ℕ). tab ∷ r) (sym (append_assoc t (tabbed ts) (line_feed ∷ [])))

-- one field
pub number-tabbed : (z : ℤ) → tabbed (field_texts (Number z)) ≡ tab ∷ number_text z
unfolding tabbed field_texts
number-tabbed z = ap (λ (r : List ℕ). tab ∷ r) (append-nil (number_text z))

pub count-tabbed : (n : ℕ) → tabbed (field_texts (Count n)) ≡ tab ∷ decimal n
unfolding tabbed field_texts
count-tabbed n = ap (λ (r : List ℕ). tab ∷ r) (append-nil (decimal n))

pub sign-tabbed : (b : ℕ) → tabbed (field_texts (Sign b)) ≡ tab ∷ b ∷ []
unfolding tabbed field_texts
sign-tabbed b = refl

pub nothing-tabbed : tabbed (field_texts Nothing) ≡ []
unfolding tabbed field_texts
nothing-tabbed = refl

-- what the first i fields write
abbrev pub done : List Field → ℕ → List ℕ
done fs i = tabbed (texts_of (take i fs))

module _ (fs : List Field) (l : List ℕ) (room : length (others (texts_of fs)) ≤ length l) where
  all-within : length (tabbed (texts_of fs)) < length l
  all-within = omega (arith, ap length (others-tabbed (texts_of fs)), length-append (tabbed (texts_of fs)) (line_feed ∷ []))

  pub done-within : (i : ℕ) → length (done fs i) < length l
  done-within i =
      omega (
        arith,
        all-within,
        ap (λ (r : List Field). length (tabbed (texts_of r))) (sym (take-append-drop i fs)),
        ap (λ (r : List (List ℕ)). length (tabbed r)) (texts-append (take i fs) (drop i fs)),
        ap length (tabbed-append (texts_of (take i fs)) (texts_of (drop i fs))),
        length-append (done fs i) (tabbed (texts_of (drop i fs))),
      )

  done_more : (d : Field) (i : ℕ) → i < length fs → done fs (i + 1) ≡ done fs i ++ tabbed (field_texts (get_or fs i d))
  done_more d i h =
      ap (done fs) (add-one i) ∙ ap (λ (r : List Field). tabbed (texts_of r)) (take-suc fs i d h)
      ∙ ap tabbed (texts-append (take i fs) (get_or fs i d ∷ []) ∙ ap (λ (r : List (List ℕ)). texts_of (take i fs) ++ r) (texts-one (get_or fs i d)))
      ∙ tabbed-append (texts_of (take i fs)) (field_texts (get_or fs i d))

  pub done-length : (d : Field) (i : ℕ) → i < length fs → length (done fs (i + 1)) ≡ length (done fs i) + length (tabbed (field_texts (get_or fs i d)))
  done-length d i h = ap length (done_more d i h) ∙ length-append (done fs i) (tabbed (field_texts (get_or fs i d)))

  -- a turn: a field comes home behind those before it
  pub field-home : (d : Field) (i at : ℕ) {xs ys : List ℕ} → i < length fs → at ≡ length (done fs i) → xs ≡ front (done fs i) l
      → ys ≡ front (tabbed (field_texts (get_or fs i d))) (mid_of at (length xs - at) xs) → put_mid at (length xs - at) xs ys ≡ front (done fs (i + 1)) l
  field-home d i at h k e y =
      tail-home (done fs i) l at e k (omega (arith, done-within i)) (tabbed (field_texts (get_or fs i d))) y ∙ ap (λ (t : List ℕ). front t l) (sym (done_more d i h))

  -- the end: the line feed
  pub line-home : (i at : ℕ) {xs : List ℕ} → length fs ≤ i → at ≡ length (done fs i) → xs ≡ front (done fs i) l → set xs at line_feed ≡ front (others (texts_of fs)) l
  line-home i at h k e =
      ap (λ (r : List ℕ). set r at line_feed) e ∙ front-more (done fs i) l at line_feed k (omega (arith, done-within i))
      ∙ ap (λ (r : List Field). front (tabbed (texts_of r) ++ (line_feed ∷ [])) l) (take_all i fs h)
      ∙ ap (λ (t : List ℕ). front t l) (sym (others-tabbed (texts_of fs)))

-- each kind of field
pub ruleset tabs = (number-tabbed, count-tabbed, sign-tabbed, nothing-tabbed)
