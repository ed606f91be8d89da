-- One law for each way out of a reader: what the tests on the way say, and what is then read. Assumes nothing.
use mathlib.Core.Path.{◌≡◌, refl, sym, ◌∙◌, ap, subst}
use mathlib.Core.Bool.{Bool, true, false, cond}
use mathlib.Core.List.{List, [], ◌∷◌, ◌++◌}
use Prim.Native.Nat.{ℕ, zero, suc, ◌+◌, ◌*◌, ◌-◌, ◌≤◌, ◌<◌}
use native.Mathlib.Omega.{arith}
use borrow.Author.Tests.{lt-ltb, le-ltb, eq-eqb, ne_eqb, ltb-true}
use lib.Dec.{ltb, eqb}
use lib.IntN.{ℤ, pos, ◌-ℤ◌}
use lib.ListN.{length, take, drop, length-drop}
use lib.Seq.{take_all}
use Rattle.laws.proofs.Ints.{ints, minus, eq-made}
use Rattle.quantity.specs.Keys.{byte_at, between, key_byte}
use Rattle.quantity.proofs.Rim.{range-yes}
use Rattle.quantity.proofs.Shapes.{key-range}
use Rattle.request.specs.Texts.{Band}
use Rattle.request.specs.declared.bands.Field.{Field}
use Rattle.request.specs.Reading.{digit_of, digit_at, tenth_by, tenth_at, third_at, second_at, first_at, figure_at}
use Rattle.request.specs.Reading.{Found, level_at, band_at, bands_from, key_span, kind_at}
use Rattle.request.specs.Reading.Bands.{broken, ended}
use Rattle.kinds.specs.declared.kinds.Kind.TheVariants.{A3, A1, I3, I1}
use Rattle.request.specs.Reading.Found.{found}
use Rattle.request.specs.Gathering.{Small, Short, field_of}
use Rattle.request.proofs.Leaves.{Digit, digit-yes, digit-between, digit-read}
use Rattle.std.specs.Prelude.{Option, Some, None}
use Rattle.std.specs.List.{prefix_len, take_while}
use Rattle.std.proofs.lemmas.List.Folds.{length-prefix_len}
use Rattle.request.specs.declared.bands.Figure.{Figure}
use Rattle.kinds.specs.declared.kinds.Kind.{Kind}

-- tenths that were read, and the position after them
abbrev pub read : ℕ → ℕ → Option Figure
read m next = Some (record { tenths = m; next = next })

module _ (s : List ℕ) (at whole : ℕ) where
  pub tenth-got : (d : ℕ) → d ≡ digit_at s at → d < 10 → read (10 * whole + d) (at + 1) ≡ tenth_at s at whole
  unfolding tenth_at
  tenth-got d e h = rw (lt-ltb (digit_at s at) 10 (omega arith)) (ap (λ (x : ℕ). read (10 * whole + x) (at + 1)) e)

  pub third-point : (b : ℕ) → b ≡ byte_at s at → b ≡ 46 → tenth_at s (at + 1) whole ≡ third_at s at whole
  unfolding third_at
  third-point b e h = rw (eq-eqb (byte_at s at) 46 (sym e ∙ h))

  pub second-point : (b : ℕ) → b ≡ byte_at s at → b ≡ 46 → tenth_at s (at + 1) whole ≡ second_at s at whole
  unfolding second_at
  second-point b e h = rw (eq-eqb (byte_at s at) 46 (sym e ∙ h))

  pub second_more : (b d : ℕ) → b ≡ byte_at s at → (b ≡ 46 → ⊥) → d ≡ digit_at s at → d < 10 → third_at s (at + 1) (10 * whole + d) ≡ second_at s at whole
  unfolding second_at
  second_more b d e h f k =
      rw (ne_eqb (byte_at s at) 46 (λ q. h (e ∙ q)), lt-ltb (digit_at s at) 10 (omega arith)) (ap (λ (x : ℕ). third_at s (at + 1) (10 * whole + x)) f)

  pub first-point : (b : ℕ) → b ≡ byte_at s at → b ≡ 46 → tenth_at s (at + 1) whole ≡ first_at s at whole
  unfolding first_at
  first-point b e h = rw (eq-eqb (byte_at s at) 46 (sym e ∙ h))

  pub first_more : (b d : ℕ) → b ≡ byte_at s at → (b ≡ 46 → ⊥) → (whole ≡ 0 → ⊥) → d ≡ digit_at s at → d < 10 → second_at s (at + 1) (10 * whole + d) ≡ first_at s at whole
  unfolding first_at
  first_more b d e h z f k =
      rw (ne_eqb (byte_at s at) 46 (λ q. h (e ∙ q)), ne_eqb whole 0 z, lt-ltb (digit_at s at) 10 (omega arith))
      (ap (λ (x : ℕ). second_at s (at + 1) (10 * whole + x)) f)

pub figure-some : (s : List ℕ) (at d : ℕ) → d ≡ digit_at s at → d < 10 → first_at s (at + 1) d ≡ figure_at s at
unfolding figure_at
figure-some s at d e h = rw (lt-ltb (digit_at s at) 10 (omega arith)) (ap (λ (x : ℕ). first_at s (at + 1) x) e)

pub figure-none : (s : List ℕ) (at d : ℕ) → d ≡ digit_at s at → 10 ≤ d → None ≡ figure_at s at
unfolding figure_at
figure-none s at d e h = rw (le-ltb (digit_at s at) 10 (omega arith))

-- the short way: one digit before the point, or two
short-read : (b whole next : ℕ) (f r : Option Figure) → whole ≤ 99 → r ≡ tenth_by b whole next → tenth_by b whole next ≡ f → Short f r
short-read b whole next f r h e g = subst (Short f) (sym e) (go (ltb (digit_of b) 10) refl g)
  where
    go : (t : Bool) → ltb (digit_of b) 10 ≡ t → cond t (read (10 * whole + digit_of b) next) None ≡ f
        → Short f (cond t (read (10 * whole + digit_of b) next) None)
    go true p g = (sym g, omega (arith, ltb-true (digit_of b) 10 p))
    go false p g = tt

module _ (s : List ℕ) (at : ℕ) (r : Option Figure) (h : between 48 57 (byte_at s at) ≡ true) where
  abbrev tens : ℕ
  tens = byte_at s at

  abbrev ones : ℕ
  ones = byte_at s (at + 1)

  ten : tens - 48 ≡ digit_at s at
  ten = let k = digit-between tens h in digit-yes tens k.0 k.1

  place : (i j : ℕ) → i ≡ j → (whole : ℕ) → tenth_by (byte_at s i) whole (i + 1) ≡ tenth_by (byte_at s j) whole (j + 1)
  place i j e whole = ap (λ (k : ℕ). tenth_by (byte_at s k) whole (k + 1)) e

  pub short-one : (whole : ℕ) → whole ≡ tens - 48 → ones ≡ 46 → r ≡ tenth_by (byte_at s (at + 2)) whole (at + 3) → Short (figure_at s at) r
  unfolding tenth_at
  short-one whole w p e =
      let k = digit-between tens h in
      short-read (byte_at s (at + 2)) (tens - 48) (at + 3) (figure_at s at) r (omega arith)
      (e ∙ ap (λ (x : ℕ). tenth_by (byte_at s (at + 2)) x (at + 3)) w)
      (ap (tenth_by (byte_at s (at + 2)) (tens - 48)) (omega arith) ∙ place (at + 2) (at + 1 + 1) (omega arith) (tens - 48)
      ∙ first-point s (at + 1) (tens - 48) ones refl p ∙ figure-some s at (tens - 48) ten (omega arith))

  pub short-two : (whole : ℕ) → whole ≡ 10 * (tens - 48) + (ones - 48) → (ones ≡ 46 → ⊥) → (tens ≡ 48 → ⊥) → between 48 57 ones ≡ true
      → byte_at s (at + 2) ≡ 46 → r ≡ tenth_by (byte_at s (at + 3)) whole (at + 4) → Short (figure_at s at) r
  unfolding tenth_at
  short-two whole w p z d q e =
      let k = digit-between tens h in
      let l = digit-between ones d in
      let n : ℕ = 10 * (tens - 48) + (ones - 48) in
      short-read (byte_at s (at + 3)) n (at + 4) (figure_at s at) r (omega arith)
      (e ∙ ap (λ (x : ℕ). tenth_by (byte_at s (at + 3)) x (at + 4)) w)
      (ap (tenth_by (byte_at s (at + 3)) n) (omega arith)
      ∙ place (at + 3) (at + 1 + 1 + 1) (omega arith) n
      ∙ second-point s (at + 1 + 1) n 46 (sym (ap (byte_at s) (omega arith) ∙ q)) refl
      ∙ first_more s (at + 1) (tens - 48) ones (ones - 48) refl p (λ c. z (omega arith)) (digit-yes ones l.0 l.1) (omega arith)
      ∙ figure-some s at (tens - 48) ten (omega arith))

-- a figure has at most four digits
tenth-small : (s : List ℕ) (at whole : ℕ) → whole < 1000 → Small (tenth_at s at whole)
unfolding tenth_at
tenth-small s at whole h = go (ltb (digit_at s at) 10) refl
  where
    go : (t : Bool) → ltb (digit_at s at) 10 ≡ t → Small (cond t (read (10 * whole + digit_at s at) (at + 1)) None)
    go true e = omega (arith, ltb-true (digit_at s at) 10 e)
    go false e = tt

small-if : (t : Bool) (a b : Option Figure) → (t ≡ true → Small a) → (t ≡ false → Small b) → Small (cond t a b)
small-if true a b f g = f refl
small-if false a b f g = g refl

third-small : (s : List ℕ) (at whole : ℕ) → whole < 1000 → Small (third_at s at whole)
unfolding third_at
third-small s at whole h = small-if (eqb (byte_at s at) 46) (tenth_at s (at + 1) whole) None (λ e. tenth-small s (at + 1) whole h) (λ e. tt)

second-small : (s : List ℕ) (at whole : ℕ) → whole < 100 → Small (second_at s at whole)
unfolding second_at
second-small s at whole h =
    small-if (eqb (byte_at s at) 46) (tenth_at s (at + 1) whole) (cond (ltb (digit_at s at) 10) (third_at s (at + 1) (10 * whole + digit_at s at)) None)
    (λ e. tenth-small s (at + 1) whole (omega arith))
    (λ e. small-if (ltb (digit_at s at) 10) (third_at s (at + 1) (10 * whole + digit_at s at)) None
    (λ f. third-small s (at + 1) (10 * whole + digit_at s at) (omega (arith, ltb-true (digit_at s at) 10 f))) (λ f. tt))

first_small : (s : List ℕ) (at whole : ℕ) → whole < 10 → Small (first_at s at whole)
unfolding first_at
first_small s at whole h =
    let more : Option Figure = cond (ltb (digit_at s at) 10) (second_at s (at + 1) (10 * whole + digit_at s at)) None in
    small-if (eqb (byte_at s at) 46) (tenth_at s (at + 1) whole) (cond (eqb whole 0) None more)
    (λ e. tenth-small s (at + 1) whole (omega arith))
    (λ e. small-if (eqb whole 0) None more (λ f. tt)
    (λ f. small-if (ltb (digit_at s at) 10) (second_at s (at + 1) (10 * whole + digit_at s at)) None
    (λ g. second-small s (at + 1) (10 * whole + digit_at s at) (omega (arith, ltb-true (digit_at s at) 10 g))) (λ g. tt)))

pub figure_at_small : (s : List ℕ) (at : ℕ) → Small (figure_at s at)
unfolding figure_at
figure_at_small s at =
    small-if (ltb (digit_at s at) 10) (first_at s (at + 1) (digit_at s at)) None
    (λ e. first_small s (at + 1) (digit_at s at) (ltb-true (digit_at s at) 10 e)) (λ e. tt)

-- the short way's field: a figure alone is a level above 0 that is no limit value
module _ (s : List ℕ) (at : ℕ) where
  figure-digit : (f : Figure) → figure_at s at ≡ Some f → digit_at s at < 10
  unfolding figure_at
  figure-digit f e = go (ltb (digit_at s at) 10) refl e
    where
      go : (t : Bool) → ltb (digit_at s at) 10 ≡ t → cond t (first_at s (at + 1) (digit_at s at)) None ≡ Some f → digit_at s at < 10
      go true p e = ltb-true (digit_at s at) 10 p
      go false p e = cc

  pub band-short : (f : Figure) (z : ℤ) → Short (figure_at s at) (Some f) → z ≡ pos f.tenths -ℤ pos 0
      → ◌≡◌ {A = Option Field} (Some (record { next = f.next; value = record { 0 = z }; limit = false; fault = None })) (field_of (band_at s at))
  unfolding band_at level_at field_of
  band-short f z k g =
      let d : Digit (byte_at s at) = digit-read (byte_at s at) (figure-digit f k.0) in
      let e : z ≡ pos f.tenths = eq-made (omega (ints, g, minus (pos f.tenths) (pos 0))) in
      rw (
        ne_eqb (byte_at s at) 76 (omega (arith, d.is, d.small)),
        ne_eqb (byte_at s at) 45 (omega (arith, d.is, d.small)),
        k.0,
        e,
        ← range-yes (pos f.tenths) (omega arith) (omega (arith, k.1)),
      )

-- all bands: a tab and a band, a tab and none, a line feed, or anything else
module _ (more : ℕ) (s : List ℕ) (at : ℕ) (before : List Band) where
  pub bands-tab : (b : Band) (next : ℕ) → byte_at s at ≡ 9 → band_at s (at + 1) ≡ found b next
      → bands_from (suc more) s at before ≡ bands_from more s next (before ++ (b ∷ []))
  unfolding bands_from
  bands-tab b next e f = rw (eq-eqb (byte_at s at) 9 e, f, bands_from)

  pub bands-broken : byte_at s at ≡ 9 → band_at s (at + 1) ≡ Found.nothing → bands_from (suc more) s at before ≡ broken
  unfolding bands_from
  bands-broken e f = rw (eq-eqb (byte_at s at) 9 e, f, bands_from)

  pub bands-end : byte_at s at ≡ 10 → bands_from (suc more) s at before ≡ ended before (at + 1)
  unfolding bands_from
  bands-end e = rw (ne_eqb (byte_at s at) 9 (omega arith), eq-eqb (byte_at s at) 10 e, bands_from)

  pub bands-none : (byte_at s at ≡ 9 → ⊥) → (byte_at s at ≡ 10 → ⊥) → bands_from (suc more) s at before ≡ broken
  unfolding bands_from
  bands-none f g = rw (ne_eqb (byte_at s at) 9 f, ne_eqb (byte_at s at) 10 g, bands_from)

-- kinds, by their two letters
module _ (s : List ℕ) (at b d : ℕ) (e : b ≡ byte_at s at) (f : d ≡ byte_at s (at + 1)) where
  pub kind-A : b ≡ 65 → cond (eqb d 51) (Some A3) (cond (eqb d 49) (Some A1) None) ≡ kind_at s at
  unfolding kind_at
  kind-A h =
      rw (eq-eqb (byte_at s at) 65 (sym e ∙ h))
      (ap (λ (x : ℕ). cond (eqb x 51) (Some A3) (cond (eqb x 49) (Some A1) None)) f)

  pub kind-I : b ≡ 73 → cond (eqb d 51) (Some I3) (cond (eqb d 49) (Some I1) None) ≡ kind_at s at
  unfolding kind_at
  kind-I h =
      rw (ne_eqb (byte_at s at) 65 (omega arith), eq-eqb (byte_at s at) 73 (sym e ∙ h))
      (ap (λ (x : ℕ). cond (eqb x 51) (Some I3) (cond (eqb x 49) (Some I1) None)) f)

module _ (d : ℕ) (x y : Option Kind) where
  pub thirds : d ≡ 51 → x ≡ cond (eqb d 51) x (cond (eqb d 49) y None)
  thirds h = rw (eq-eqb d 51 h)

  pub octaves : (d ≡ 51 → ⊥) → d ≡ 49 → y ≡ cond (eqb d 51) x (cond (eqb d 49) y None)
  octaves h k = rw (ne_eqb d 51 h, eq-eqb d 49 k)

-- keys: one byte more, or the end
pub span_more : (s : List ℕ) (i : ℕ) → key_byte (byte_at s i) ≡ true → key_span (drop i s) ≡ suc (key_span (drop (suc i) s))
unfolding key_span
span_more [] i e = absurd (omega (arith, key-range 0 e))
span_more (b ∷ s) zero e = rw (e, key_span)
span_more (b ∷ s) (suc i) e = span_more s i e

pub span-end : (s : List ℕ) (i : ℕ) → key_byte (byte_at s i) ≡ false → key_span (drop i s) ≡ 0
unfolding key_span
span-end [] zero e = refl
span-end [] (suc i) e = refl
span-end (b ∷ s) zero e = rw (e, key_span)
span-end (b ∷ s) (suc i) e = span-end s i e

-- how many bytes of a key stand in front, by the library's words
prefix_is : (l : List ℕ) → prefix_len key_byte l ≡ key_span l
unfolding key_span
prefix_is [] = refl
prefix_is (b ∷ l) = go (key_byte b) refl (prefix_is l)
  where
    go : (t : Bool) → key_byte b ≡ t → prefix_len key_byte l ≡ key_span l → prefix_len key_byte (b ∷ l) ≡ key_span (b ∷ l)
    go true e h = rw (e, key_span) (omega (arith, h))
    go false e h = rw (e, key_span)

pub span_taken : (s : List ℕ) (at : ℕ) → length (take_while key_byte (take (length s - at) (drop at s))) ≡ key_span (drop at s)
span_taken s at =
    ap (λ (l : List ℕ). length (take_while key_byte l)) (take_all (length s - at) (drop at s) (omega (arith, length-drop at s)))
    ∙ length-prefix_len key_byte (drop at s) ∙ prefix_is (drop at s)
