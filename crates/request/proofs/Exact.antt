-- Reading is exact: what a reader gives stands in the line as its text, and where a text stands its reader gives it.
-- Assumes nothing.
use mathlib.Core.Path.{◌≡◌, refl, sym, ◌∙◌, ap, subst}
use mathlib.Core.Bool.{Bool, true, false, cond}
use mathlib.Core.List.{List, [], ◌∷◌, ◌++◌, append_assoc}
use Prim.Native.Nat.{ℕ, zero, suc, ◌+◌, ◌*◌, ◌/◌, ◌%◌, ◌≤◌, ◌<◌}
use native.Mathlib.Omega.{arith}
use borrow.Author.Tests.{lt-ltb, le-ltb, eq-eqb, ne_eqb, ltb-true, ltb-false, eqb-true, eqb-false}
use lib.Dec.{ltb, eqb, eqb-suc-zero}
use lib.IntN.{ℤ, pos, negsuc}
use lib.ListN.{length, length-append}
use Rattle.laws.specs.Parts.{P, N}
use Rattle.quantity.specs.Keys.{byte_at}
use Rattle.answer.specs.Texts.{decimal}
use Rattle.request.specs.Texts.{figure_text, level_text, mark_text, band_text, Band, BandOk}
use Rattle.request.specs.Texts.Band.{missing, level}
use Rattle.request.specs.Texts.BandOk.{gone, given}
use Rattle.request.specs.Reading.{digit_of, digit_at, tenth_at, third_at, second_at, first_at, figure_at, Found, signed_by, level_at, band_at}
use Rattle.request.specs.Reading.Found.{found}
use Rattle.request.proofs.Leaves.{inside, digit-read, digit-made}
use Rattle.request.proofs.Readers.{tenth-got, third-point, second-point, second_more, first-point, first_more, figure-some, figure-none, read}
use Rattle.answer.proofs.Decimals.{decimal-one, decimal_step}
use Rattle.request.proofs.Stands.{Stands, Stood, one_more, joined, move}
use Rattle.laws.proofs.Fronts.{snoc-length}
use Rattle.laws.proofs.Tests.{clash}
use Rattle.std.specs.Prelude.{Option, Some, None}
use Rattle.request.specs.declared.bands.Figure.{Figure}

figure-step : (a b : ℕ) → b < 10 → figure_text (10 * a + b) ≡ (decimal a ++ (46 ∷ [])) ++ ((48 + b) ∷ [])
unfolding figure_text
figure-step a b k =
    ap (λ (n : ℕ). decimal n ++ (46 ∷ (48 + (10 * a + b) % 10) ∷ [])) (tenth a b k)
    ∙ ap (λ (n : ℕ). decimal a ++ (46 ∷ (48 + n) ∷ [])) (unit a b k)
    ∙ sym (append_assoc (decimal a) (46 ∷ []) ((48 + b) ∷ []))
  where
    tenth : (a b : ℕ) → b < 10 → (10 * a + b) / 10 ≡ a
    tenth a b k = omega arith

    unit : (a b : ℕ) → b < 10 → (10 * a + b) % 10 ≡ b
    unit a b k = omega arith

-- a figure that was read stands there
pub record FigureAt (s : List ℕ) (at m next : ℕ) : Type 0 where
  pub stands : Stands s at (figure_text m)
  pub ends : next ≡ at + length (figure_text m)
  pub small : m ≤ 9999

abbrev pub FigureOk : List ℕ → ℕ → Option Figure → Type 0
FigureOk s at (Some f) = FigureAt s at f.tenths f.next
FigureOk s at None = Unit {0}

if_ok : (s : List ℕ) (at : ℕ) (t : Bool) (a b : Option Figure) → (t ≡ true → FigureOk s at a) → (t ≡ false → FigureOk s at b) → FigureOk s at (cond t a b)
if_ok s at true a b f g = f refl
if_ok s at false a b f g = g refl

digit-stands : (s : List ℕ) (j : ℕ) → digit_at s j < 10 → Stood s j (48 + digit_at s j)
digit-stands s j h =
    record { within = inside s j (omega (arith, digit-read (byte_at s j) h)); is = (digit-read (byte_at s j) h).is }

module _ (s : List ℕ) (start : ℕ) where
  tenth-ok : (at whole : ℕ) → whole < 1000 → Stands s start (decimal whole ++ (46 ∷ [])) → at ≡ start + length (decimal whole ++ (46 ∷ []))
      → FigureOk s start (tenth_at s at whole)
  unfolding tenth_at
  tenth-ok at whole h k e =
      if_ok s start (ltb (digit_at s at) 10) (read (10 * whole + digit_at s at) (at + 1)) None
      (λ t. got (ltb-true (digit_at s at) 10 t)) (λ t. tt)
    where
      got : digit_at s at < 10 → FigureAt s start (10 * whole + digit_at s at) (at + 1)
      got d =
          let text : figure_text (10 * whole + digit_at s at) ≡ (decimal whole ++ (46 ∷ [])) ++ ((48 + digit_at s at) ∷ []) = figure-step whole (digit_at s at) d in
          let st : Stood s at (48 + digit_at s at) = digit-stands s at d in
          record {
            stands = subst (λ (l : List ℕ). Stands s start l) (sym text)
                (one_more s (decimal whole ++ (46 ∷ [])) start at (48 + digit_at s at) k e st.within st.is);
            ends = omega (arith, ap length text, snoc-length (decimal whole ++ (46 ∷ [])) (48 + digit_at s at));
            small = omega arith;
          }

  point-ok : (at whole : ℕ) → whole < 1000 → Stands s start (decimal whole) → at ≡ start + length (decimal whole) → byte_at s at ≡ 46
      → FigureOk s start (tenth_at s (at + 1) whole)
  point-ok at whole h k e p =
      tenth-ok (at + 1) whole h (one_more s (decimal whole) start at 46 k e (inside s at (omega arith)) p)
      (omega (arith, snoc-length (decimal whole) 46))

  third-ok : (at whole : ℕ) → whole < 1000 → Stands s start (decimal whole) → at ≡ start + length (decimal whole) → FigureOk s start (third_at s at whole)
  unfolding third_at
  third-ok at whole h k e =
      if_ok s start (eqb (byte_at s at) 46) (tenth_at s (at + 1) whole) None (λ t. point-ok at whole h k e (eqb-true (byte_at s at) 46 t)) (λ t. tt)

  -- one digit more of the whole part
  wider : (at whole : ℕ) → 0 < whole → Stands s start (decimal whole) → at ≡ start + length (decimal whole) → digit_at s at < 10
      → Stands s start (decimal (10 * whole + digit_at s at)) × (at + 1 ≡ start + length (decimal (10 * whole + digit_at s at)))
  wider at whole z k e d =
      let text : decimal (10 * whole + digit_at s at) ≡ decimal whole ++ ((48 + digit_at s at) ∷ []) = decimal_step whole (digit_at s at) z d in
      let st : Stood s at (48 + digit_at s at) = digit-stands s at d in (
        subst (λ (l : List ℕ). Stands s start l) (sym text) (one_more s (decimal whole) start at (48 + digit_at s at) k e st.within st.is),
        omega (arith, ap length text, snoc-length (decimal whole) (48 + digit_at s at)),
      )

  second-ok : (at whole : ℕ) → 0 < whole → whole < 100 → Stands s start (decimal whole) → at ≡ start + length (decimal whole) → FigureOk s start (second_at s at whole)
  unfolding second_at
  second-ok at whole z h k e =
      if_ok s start (eqb (byte_at s at) 46) (tenth_at s (at + 1) whole) (cond (ltb (digit_at s at) 10) (third_at s (at + 1) (10 * whole + digit_at s at)) None)
      (λ t. point-ok at whole (omega arith) k e (eqb-true (byte_at s at) 46 t))
      (λ t. if_ok s start (ltb (digit_at s at) 10) (third_at s (at + 1) (10 * whole + digit_at s at)) None (λ u. more (ltb-true (digit_at s at) 10 u)) (λ u. tt))
    where
      more : digit_at s at < 10 → FigureOk s start (third_at s (at + 1) (10 * whole + digit_at s at))
      more d = let w = wider at whole z k e d in third-ok (at + 1) (10 * whole + digit_at s at) (omega arith) w.0 w.1

  first-ok : (at whole : ℕ) → whole < 10 → Stands s start (decimal whole) → at ≡ start + length (decimal whole) → FigureOk s start (first_at s at whole)
  unfolding first_at
  first-ok at whole h k e =
      let rest : Option Figure = cond (ltb (digit_at s at) 10) (second_at s (at + 1) (10 * whole + digit_at s at)) None in
      if_ok s start (eqb (byte_at s at) 46) (tenth_at s (at + 1) whole) (cond (eqb whole 0) None rest)
      (λ t. point-ok at whole (omega arith) k e (eqb-true (byte_at s at) 46 t))
      (λ t. if_ok s start (eqb whole 0) None rest (λ z. tt)
      (λ z. if_ok s start (ltb (digit_at s at) 10) (second_at s (at + 1) (10 * whole + digit_at s at)) None
      (λ u. more (omega (arith, eqb-false whole 0 z)) (ltb-true (digit_at s at) 10 u)) (λ u. tt)))
    where
      more : 0 < whole → digit_at s at < 10 → FigureOk s start (second_at s (at + 1) (10 * whole + digit_at s at))
      more z d = let w = wider at whole z k e d in second-ok (at + 1) (10 * whole + digit_at s at) (omega arith) (omega arith) w.0 w.1

pub figure-ok : (s : List ℕ) (at : ℕ) → FigureOk s at (figure_at s at)
unfolding figure_at
figure-ok s at =
    if_ok s at (ltb (digit_at s at) 10) (first_at s (at + 1) (digit_at s at)) None (λ t. got (ltb-true (digit_at s at) 10 t)) (λ t. tt)
  where
    got : digit_at s at < 10 → FigureOk s at (first_at s (at + 1) (digit_at s at))
    got d =
        let text : decimal (digit_at s at) ≡ (48 + digit_at s at) ∷ [] = decimal-one (digit_at s at) d in
        first-ok s at (at + 1) (digit_at s at) d
        (subst (λ (l : List ℕ). Stands s at l) (sym text) (digit-stands s at d, tt))
        (omega (arith, ap length text))

-- and where the text of one stands, it is read
digit-here : (s : List ℕ) (at d : ℕ) → d < 10 → Stood s at (48 + d) → d ≡ digit_at s at
digit-here s at d h st = sym (ap digit_of st.is ∙ digit-made d h)

next_one : (i : ℕ) → suc i ≡ i + 1
next_one i = omega arith

here-at : (s : List ℕ) (i j b : ℕ) → i ≡ j → Stood s i b → Stood s j b
here-at s i j b e h = subst (λ (k : ℕ). Stood s k b) e h

module _ (s : List ℕ) (at b : ℕ) (hb : b < 10) where
  -- the point and the digit after it
  tail-here : (i j whole : ℕ) → i ≡ at → j ≡ at + 1 → Stood s j (48 + b) → tenth_at s (at + 1) whole ≡ read (10 * whole + b) (at + 1 + 1)
  tail-here i j whole e f st = sym (tenth-got s (at + 1) whole b (digit-here s (at + 1) b hb (here-at s j (at + 1) (48 + b) f st)) hb)

figure-one : (s : List ℕ) (at a b : ℕ) → a < 10 → b < 10 → Stands s at ((48 + a) ∷ 46 ∷ (48 + b) ∷ [])
    → figure_at s at ≡ read (10 * a + b) (at + 1 + 1 + 1)
figure-one s at a b ha hb h =
    sym (figure-some s at a (digit-here s at a ha h.0) ha)
    ∙ sym (first-point s (at + 1) a 46 (sym (here-at s (suc at) (at + 1) 46 (next_one at) h.1.0).is) refl)
    ∙ tail-here s (at + 1) b hb (at + 1) (suc (suc at)) a refl (omega arith) h.1.1.0

figure-two : (s : List ℕ) (at a a2 b : ℕ) → 0 < a → a < 10 → a2 < 10 → b < 10 → Stands s at ((48 + a) ∷ (48 + a2) ∷ 46 ∷ (48 + b) ∷ [])
    → figure_at s at ≡ read (10 * (10 * a + a2) + b) (at + 1 + 1 + 1 + 1)
figure-two s at a a2 b z ha ha2 hb h =
    let st : Stood s (at + 1) (48 + a2) = here-at s (suc at) (at + 1) (48 + a2) (next_one at) h.1.0 in
    sym (figure-some s at a (digit-here s at a ha h.0) ha)
    ∙ sym (first_more s (at + 1) a (48 + a2) a2 (sym st.is) (omega arith) (omega arith) (digit-here s (at + 1) a2 ha2 st) ha2)
    ∙ sym (second-point s (at + 1 + 1) (10 * a + a2) 46 (sym (here-at s (suc (suc at)) (at + 1 + 1) 46 (omega arith) h.1.1.0).is) refl)
    ∙ tail-here s (at + 1 + 1) b hb (at + 1 + 1) (suc (suc (suc at))) (10 * a + a2) refl (omega arith) h.1.1.1.0

figure-three : (s : List ℕ) (at a a2 a3 b : ℕ) → 0 < a → a < 10 → a2 < 10 → a3 < 10 → b < 10
    → Stands s at ((48 + a) ∷ (48 + a2) ∷ (48 + a3) ∷ 46 ∷ (48 + b) ∷ [])
    → figure_at s at ≡ read (10 * (10 * (10 * a + a2) + a3) + b) (at + 1 + 1 + 1 + 1 + 1)
figure-three s at a a2 a3 b z ha ha2 ha3 hb h =
    let st : Stood s (at + 1) (48 + a2) = here-at s (suc at) (at + 1) (48 + a2) (next_one at) h.1.0 in
    let st3 : Stood s (at + 1 + 1) (48 + a3) = here-at s (suc (suc at)) (at + 1 + 1) (48 + a3) (omega arith) h.1.1.0 in
    sym (figure-some s at a (digit-here s at a ha h.0) ha)
    ∙ sym (first_more s (at + 1) a (48 + a2) a2 (sym st.is) (omega arith) (omega arith) (digit-here s (at + 1) a2 ha2 st) ha2)
    ∙ sym (second_more s (at + 1 + 1) (10 * a + a2) (48 + a3) a3 (sym st3.is) (omega arith) (digit-here s (at + 1 + 1) a3 ha3 st3) ha3)
    ∙ sym (third-point s (at + 1 + 1 + 1) (10 * (10 * a + a2) + a3) 46 (sym (here-at s (suc (suc (suc at))) (at + 1 + 1 + 1) 46 (omega arith) h.1.1.1.0).is) refl)
    ∙ tail-here s (at + 1 + 1 + 1) b hb (at + 1 + 1 + 1) (suc (suc (suc (suc at)))) (10 * (10 * a + a2) + a3) refl (omega arith) h.1.1.1.1.0

-- the text of a figure, by how many digits it has
text-one : (a b : ℕ) → a < 10 → b < 10 → figure_text (10 * a + b) ≡ (48 + a) ∷ 46 ∷ (48 + b) ∷ []
text-one a b ha hb = figure-step a b hb ∙ ap (λ (l : List ℕ). (l ++ (46 ∷ [])) ++ ((48 + b) ∷ [])) (decimal-one a ha)

text-two : (a a2 b : ℕ) → 0 < a → a < 10 → a2 < 10 → b < 10 → figure_text (10 * (10 * a + a2) + b) ≡ (48 + a) ∷ (48 + a2) ∷ 46 ∷ (48 + b) ∷ []
text-two a a2 b z ha ha2 hb =
    figure-step (10 * a + a2) b hb
    ∙ ap (λ (l : List ℕ). (l ++ (46 ∷ [])) ++ ((48 + b) ∷ [])) (decimal_step a a2 z ha2)
    ∙ ap (λ (l : List ℕ). ((l ++ ((48 + a2) ∷ [])) ++ (46 ∷ [])) ++ ((48 + b) ∷ [])) (decimal-one a ha)

text-three : (a a2 a3 b : ℕ) → 0 < a → a < 10 → a2 < 10 → a3 < 10 → b < 10
    → figure_text (10 * (10 * (10 * a + a2) + a3) + b) ≡ (48 + a) ∷ (48 + a2) ∷ (48 + a3) ∷ 46 ∷ (48 + b) ∷ []
text-three a a2 a3 b z ha ha2 ha3 hb =
    figure-step (10 * (10 * a + a2) + a3) b hb
    ∙ ap (λ (l : List ℕ). (l ++ (46 ∷ [])) ++ ((48 + b) ∷ [])) (decimal_step (10 * a + a2) a3 (omega arith) ha3)
    ∙ ap (λ (l : List ℕ). ((l ++ ((48 + a3) ∷ [])) ++ (46 ∷ [])) ++ ((48 + b) ∷ [])) (decimal_step a a2 z ha2)
    ∙ ap (λ (l : List ℕ). (((l ++ ((48 + a2) ∷ [])) ++ ((48 + a3) ∷ [])) ++ (46 ∷ [])) ++ ((48 + b) ∷ [])) (decimal-one a ha)

abbrev FigureHere : List ℕ → ℕ → ℕ → Type 0
FigureHere s at m = Stands s at (figure_text m) → figure_at s at ≡ read m (at + length (figure_text m))

by-text : (s : List ℕ) (at m n : ℕ) (t : List ℕ) → figure_text m ≡ t → n ≡ at + length t → (Stands s at t → figure_at s at ≡ read m n) → FigureHere s at m
by-text s at m n t e l f h =
    f (subst (λ (u : List ℕ). Stands s at u) e h) ∙ ap (λ (k : ℕ). read m k) (l ∙ ap (λ (u : List ℕ). at + length u) (sym e))

here-one : (s : List ℕ) (at a b : ℕ) → a < 10 → b < 10 → FigureHere s at (10 * a + b)
here-one s at a b ha hb =
    by-text s at (10 * a + b) (at + 1 + 1 + 1) ((48 + a) ∷ 46 ∷ (48 + b) ∷ []) (text-one a b ha hb) (omega arith) (figure-one s at a b ha hb)

here-two : (s : List ℕ) (at a a2 b : ℕ) → 0 < a → a < 10 → a2 < 10 → b < 10 → FigureHere s at (10 * (10 * a + a2) + b)
here-two s at a a2 b z ha ha2 hb =
    by-text s at (10 * (10 * a + a2) + b) (at + 1 + 1 + 1 + 1) ((48 + a) ∷ (48 + a2) ∷ 46 ∷ (48 + b) ∷ []) (text-two a a2 b z ha ha2 hb)
    (omega arith) (figure-two s at a a2 b z ha ha2 hb)

here-three : (s : List ℕ) (at a a2 a3 b : ℕ) → 0 < a → a < 10 → a2 < 10 → a3 < 10 → b < 10 → FigureHere s at (10 * (10 * (10 * a + a2) + a3) + b)
here-three s at a a2 a3 b z ha ha2 ha3 hb =
    by-text s at (10 * (10 * (10 * a + a2) + a3) + b) (at + 1 + 1 + 1 + 1 + 1) ((48 + a) ∷ (48 + a2) ∷ (48 + a3) ∷ 46 ∷ (48 + b) ∷ [])
    (text-three a a2 a3 b z ha ha2 ha3 hb) (omega arith) (figure-three s at a a2 a3 b z ha ha2 ha3 hb)

pub figure-here : (s : List ℕ) (at m : ℕ) → m ≤ 9999 → FigureHere s at m
figure-here s at m h = go (ltb m 100) (ltb m 1000) refl refl
  where
    go : (t u : Bool) → ltb m 100 ≡ t → ltb m 1000 ≡ u → FigureHere s at m
    go true u e f =
        subst (λ (k : ℕ). FigureHere s at k) (whole m) (here-one s at (m / 10) (m % 10) (omega (arith, ltb-true m 100 e)) (omega arith))
      where
        whole : (m : ℕ) → 10 * (m / 10) + m % 10 ≡ m
        whole m = omega arith
    go false true e f =
        subst (λ (k : ℕ). FigureHere s at k) (whole m)
        (here-two s at (m / 100) (m / 10 % 10) (m % 10) (omega (arith, ltb-false m 100 e)) (omega (arith, ltb-true m 1000 f)) (omega arith) (omega arith))
      where
        whole : (m : ℕ) → 10 * (10 * (m / 100) + m / 10 % 10) + m % 10 ≡ m
        whole m = omega arith
    go false false e f =
        subst (λ (k : ℕ). FigureHere s at k) (whole m)
        (here-three s at (m / 1000) (m / 100 % 10) (m / 10 % 10) (m % 10) (omega (arith, ltb-false m 1000 f)) (omega arith) (omega arith) (omega arith) (omega arith))
      where
        whole : (m : ℕ) → 10 * (10 * (10 * (m / 1000) + m / 100 % 10) + m / 10 % 10) + m % 10 ≡ m
        whole m = omega arith

-- a figure starts with a digit
pub figure-digit : (s : List ℕ) (at m next : ℕ) → figure_at s at ≡ read m next → digit_at s at < 10
figure-digit s at m next e = go (ltb (digit_at s at) 10) refl
  where
    go : (t : Bool) → ltb (digit_at s at) 10 ≡ t → digit_at s at < 10
    go true f = ltb-true (digit_at s at) 10 f
    go false f =
        let k : ◌≡◌ {A = Option Figure} None (read m next) = figure-none s at (digit_at s at) refl (ltb-false (digit_at s at) 10 f) ∙ e in
        clash cc

-- a band that was read stands there
pub record FoundAt (s : List ℕ) (at : ℕ) (b : Band) (next : ℕ) : Type 0 where
  pub stands : Stands s at (band_text b)
  pub ends : next ≡ at + length (band_text b)
  pub small : BandOk b

abbrev pub FoundOk : List ℕ → ℕ → Found → Type 0
FoundOk s at Found.nothing = Unit {0}
FoundOk s at (found b next) = FoundAt s at b next

if-found : (s : List ℕ) (at : ℕ) (t : Bool) (a b : Found) → (t ≡ true → FoundOk s at a) → (t ≡ false → FoundOk s at b) → FoundOk s at (cond t a b)
if-found s at true a b f g = f refl
if-found s at false a b f g = g refl

module _ (s : List ℕ) (start at : ℕ) (limit : Bool) (mark : Stands s start (mark_text limit)) (e : at ≡ start + length (mark_text limit)) where
  level-made : (z : ℤ) (next : ℕ) → BandOk (level limit z) → Stands s at (level_text z) → next ≡ at + length (level_text z)
      → FoundAt s start (level limit z) next
  unfolding band_text
  level-made z next ok h l = record {
    stands = joined s (mark_text limit) (level_text z) start mark (move s (level_text z) at (start + length (mark_text limit)) e h);
    ends = omega (arith, length-append (mark_text limit) (level_text z));
    small = ok;
  }

  plus-ok : (f : Option Figure) → FigureOk s at f → FoundOk s start (signed_by limit false f)
  unfolding level_text
  plus-ok (Some f) h = level-made (pos f.tenths) f.next (given h.small (omega arith)) h.stands h.ends
  plus-ok None h = tt

  minus-ok : byte_at s at ≡ 45 → (f : Option Figure) → FigureOk s (at + 1) f → FoundOk s start (signed_by limit true f)
  unfolding level_text
  minus-ok p (Some f) h = go f.tenths f.next h
    where
      go : (m next : ℕ) → FigureAt s (at + 1) m next → FoundOk s start (signed_by limit true (read m next))
      go zero next h = tt
      go (suc m) next h =
          rw (eqb-suc-zero m)
          (level-made (negsuc m) next (given (omega arith) h.small) (
            record { within = inside s at (omega arith); is = p },
            move s (figure_text (suc m)) (at + 1) (suc at) (omega arith) h.stands,
          )
          (omega (arith, h.ends)))
  minus-ok p None h = tt

  level-ok : FoundOk s start (level_at s at limit)
  unfolding level_at
  level-ok =
      if-found s start (eqb (byte_at s at) 45) (signed_by limit true (figure_at s (at + 1))) (signed_by limit false (figure_at s at))
      (λ t. minus-ok (eqb-true (byte_at s at) 45 t) (figure_at s (at + 1)) (figure-ok s (at + 1)))
      (λ t. plus-ok (figure_at s at) (figure-ok s at))

pub band-ok : (s : List ℕ) (at : ℕ) → FoundOk s at (band_at s at)
unfolding band_at band_text
band-ok s at =
    let plain : FoundOk s at (level_at s at false) = level-ok s at at false tt (omega arith) in
    if-found s at (eqb (byte_at s at) 76) (level_at s (at + 1) true)
    (cond (eqb (byte_at s at) 45) (cond (ltb (digit_at s (at + 1)) 10) (level_at s at false) (found missing (at + 1))) (level_at s at false))
    (λ t. level-ok s at (at + 1) true (record { within = inside s at (omega (arith, eqb-true (byte_at s at) 76 t)); is = eqb-true (byte_at s at) 76 t }, tt) (omega arith))
    (λ t. if-found s at (eqb (byte_at s at) 45) (cond (ltb (digit_at s (at + 1)) 10) (level_at s at false) (found missing (at + 1))) (level_at s at false)
    (λ u. if-found s at (ltb (digit_at s (at + 1)) 10) (level_at s at false) (found missing (at + 1)) (λ v. plain)
    (λ v. record {
      stands = (record { within = inside s at (omega (arith, eqb-true (byte_at s at) 45 u)); is = eqb-true (byte_at s at) 45 u }, tt);
      ends = refl;
      small = gone;
    }))
    (λ u. plain))

-- and where the text of one stands, and no digit follows, it is read
level-here : (s : List ℕ) (at : ℕ) (limit : Bool) (z : ℤ) → BandOk (level limit z) → Stands s at (level_text z)
    → level_at s at limit ≡ found (level limit z) (at + length (level_text z))
unfolding level_at level_text
level-here s at limit (pos m) (given p q) h =
    let f : figure_at s at ≡ read m (at + length (figure_text m)) = figure-here s at m p h in
    let d : digit_at s at < 10 = figure-digit s at m (at + length (figure_text m)) f in
    rw (ne_eqb (byte_at s at) 45 (omega (arith, digit-read (byte_at s at) d))) (ap (signed_by limit false) f)
level-here s at limit (negsuc m) (given p q) h =
    let f : figure_at s (at + 1) ≡ read (suc m) (at + 1 + length (figure_text (suc m))) =
    figure-here s (at + 1) (suc m) q (move s (figure_text (suc m)) (suc at) (at + 1) (next_one at) h.1) in
    rw (eq-eqb (byte_at s at) 45 h.0.is)
    (ap (signed_by limit true) f
    ∙ ap (λ (t : Bool). cond t Found.nothing (found (level limit (negsuc m)) (at + 1 + length (figure_text (suc m))))) (eqb-suc-zero m)
    ∙ ap (found (level limit (negsuc m))) (omega arith))

level-starts : (s : List ℕ) (at : ℕ) (z : ℤ) → P z ≤ 9999 → N z ≤ 9999 → Stands s at (level_text z) → (byte_at s at ≡ 45 → digit_at s (at + 1) < 10) × (byte_at s at ≡ 76 → ⊥)
unfolding level_text
level-starts s at (pos m) p q h =
    let d : digit_at s at < 10 = figure-digit s at m (at + length (figure_text m)) (figure-here s at m p h) in
    ((λ e. absurd (omega (arith, digit-read (byte_at s at) d))), (λ e. omega (arith, digit-read (byte_at s at) d)))
level-starts s at (negsuc m) p q h = (
  (λ e. figure-digit s (at + 1) (suc m) (at + 1 + length (figure_text (suc m)))
      (figure-here s (at + 1) (suc m) q (move s (figure_text (suc m)) (suc at) (at + 1) (next_one at) h.1))),
  (λ e. omega (arith, h.0.is)),
)

pub band-here : (s : List ℕ) (at : ℕ) (b : Band) → BandOk b → Stands s at (band_text b) → 10 ≤ digit_at s (at + length (band_text b))
    → band_at s at ≡ found b (at + length (band_text b))
unfolding band_at band_text
band-here s at missing gone h d =
    rw (ne_eqb (byte_at s at) 76 (omega (arith, h.0.is)), eq-eqb (byte_at s at) 45 h.0.is, le-ltb (digit_at s (at + 1)) 10 d)
band-here s at (level true z) (given p q) h d =
    rw (eq-eqb (byte_at s at) 76 h.0.is)
    (level-here s (at + 1) true z (given p q) (move s (level_text z) (suc at) (at + 1) (next_one at) h.1)
    ∙ ap (found (level true z)) (omega arith))
band-here s at (level false z) (given p q) h d =
    let st = level-starts s at z p q h in
    rw (ne_eqb (byte_at s at) 76 st.1)
    (go (eqb (byte_at s at) 45) refl st.0 ∙ level-here s at false z (given p q) h)
  where
    go : (t : Bool) → eqb (byte_at s at) 45 ≡ t → (byte_at s at ≡ 45 → digit_at s (at + 1) < 10)
        → cond (eqb (byte_at s at) 45) (cond (ltb (digit_at s (at + 1)) 10) (level_at s at false) (found missing (at + 1))) (level_at s at false) ≡ level_at s at false
    go true e f = rw (e, lt-ltb (digit_at s (at + 1)) 10 (f (eqb-true (byte_at s at) 45 e)))
    go false e f = rw e
