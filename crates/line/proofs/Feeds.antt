-- Line feeds: a request's text and an answer's have one, at the end; and where the first line of an input ends.
-- Assumes nothing.
use mathlib.Core.Path.{◌≡◌, refl, sym, ◌∙◌, ap}
use mathlib.Core.Bool.{Bool, true, false, cond}
use mathlib.Core.List.{List, [], ◌∷◌, ◌++◌, map, append-nil}
use Prim.Native.Nat.{ℕ, zero, suc, ◌+◌, ◌/◌, ◌%◌, ◌<◌}
use native.Mathlib.Omega.{arith}
use borrow.Author.Tests.{ne_eqb, eqb-true}
use lib.Dec.{ltb, eqb}
use lib.IntN.{ℤ, pos, negsuc}
use lib.ListN.{length, take, drop, length-append}
use Rattle.quantity.specs.Keys.{KeyBytes}
use Rattle.quantity.proofs.Shapes.{key-range}
use Rattle.kinds.specs.declared.kinds.Kind.{Kind}
use Rattle.kinds.specs.declared.kinds.Kind.TheVariants.{A3, A1, I3, I1}
use Rattle.answer.specs.Texts.{others, line_text, decimal, decimal_by, kind_text}
use Rattle.request.specs.Texts.{figure_text, level_text, band_text, Band, request_text}
use Rattle.request.specs.Texts.Band.{missing, level}
use Rattle.line.specs.Answers.{joined, lines_of}
use Rattle.line.specs.Blocks.{one_more, feed_in, after_feed}
use Rattle.line.proofs.Turns.{feed-cons}

abbrev pub one_for : ℕ → ℕ
one_for b = cond (eqb b 10) 1 0

-- how many line feeds a text has
unfoldable pub feeds : List ℕ → ℕ
feeds [] = 0
feeds (b ∷ s) = one_for b + feeds s

pub feeds-join : (s t : List ℕ) → feeds (s ++ t) ≡ feeds s + feeds t
unfolding feeds
feeds-join [] t = omega arith
feeds-join (b ∷ s) t = omega (arith, feeds-join s t)

pub feeds-cons : (b : ℕ) (s : List ℕ) → (b ≡ 10 → ⊥) → feeds (b ∷ s) ≡ feeds s
unfolding feeds
feeds-cons b s f = rw (ne_eqb b 10 f) (omega arith)

-- no line feed in a digit, a number, a band, a key, a kind
digit-feeds : (n : ℕ) → feeds ((48 + n) ∷ []) ≡ 0
unfolding feeds
digit-feeds n = feeds-cons (48 + n) [] (omega arith)

by-steps : (f n : ℕ) → feeds (decimal_by f n) ≡ 0
unfolding decimal_by feeds
by-steps zero n = refl
by-steps (suc f) n = go (ltb n 10) refl (by-steps f (n / 10))
  where
    go : (t : Bool) → ltb n 10 ≡ t → feeds (decimal_by f (n / 10)) ≡ 0 → feeds (decimal_by (suc f) n) ≡ 0
    go true e h = rw (e, decimal_by) (digit-feeds n)
    go false e h = rw (e, decimal_by) (feeds-join (decimal_by f (n / 10)) ((48 + n % 10) ∷ []) ∙ omega (arith, digit-feeds (n % 10)))

pub decimal-feeds : (n : ℕ) → feeds (decimal n) ≡ 0
unfolding decimal
decimal-feeds n = by-steps (suc n) n

figure-feeds : (m : ℕ) → feeds (figure_text m) ≡ 0
unfolding figure_text
figure-feeds m =
    feeds-join (decimal (m / 10)) (46 ∷ (48 + m % 10) ∷ [])
    ∙ omega (arith, decimal-feeds (m / 10), feeds-cons 46 ((48 + m % 10) ∷ []) (omega arith), digit-feeds (m % 10))

pub minus-feeds : (s : List ℕ) → feeds s ≡ 0 → feeds (45 ∷ s) ≡ 0
minus-feeds s h = feeds-cons 45 s (omega arith) ∙ h

level-feeds : (z : ℤ) → feeds (level_text z) ≡ 0
unfolding level_text
level-feeds (pos m) = figure-feeds m
level-feeds (negsuc m) = minus-feeds (figure_text (suc m)) (figure-feeds (suc m))

pub band-feeds : (b : Band) → feeds (band_text b) ≡ 0
unfolding band_text feeds
band-feeds missing = refl
band-feeds (level true z) = feeds-cons 76 (level_text z) (omega arith) ∙ level-feeds z
band-feeds (level false z) = level-feeds z

pub key-feeds : (key : List ℕ) → KeyBytes key → feeds key ≡ 0
unfolding feeds
key-feeds [] KeyBytes.none = refl
key-feeds (b ∷ key) (KeyBytes.more e k) = feeds-cons b key (omega (arith, key-range b e)) ∙ key-feeds key k

pub kind-feeds : (k : Kind) → feeds (kind_text k) ≡ 0
unfolding feeds
kind-feeds A3 = refl
kind-feeds A1 = refl
kind-feeds I3 = refl
kind-feeds I1 = refl

-- fields without one
pub data Plain : List (List ℕ) → Type 0 where
  none : Plain []
  more : {f : List ℕ} {fs : List (List ℕ)} → feeds f ≡ 0 → Plain fs → Plain (f ∷ fs)

pub bands-plain : (bs : List Band) → Plain (map band_text bs)
bands-plain [] = Plain.none
bands-plain (b ∷ bs) = Plain.more (band-feeds b) (bands-plain bs)

-- a line of such fields has one line feed,
pub others-feeds : (fs : List (List ℕ)) → Plain fs → feeds (others fs) ≡ 1
unfolding others feeds
others-feeds [] Plain.none = refl
others-feeds (f ∷ fs) (Plain.more h p) = feeds-cons 9 (f ++ others fs) (omega arith) ∙ feeds-join f (others fs) ∙ omega (arith, others-feeds fs p)

pub line-feeds : (f : List ℕ) (fs : List (List ℕ)) → feeds f ≡ 0 → Plain fs → feeds (line_text f fs) ≡ 1
unfolding line_text
line-feeds f fs h p = feeds-join f (others fs) ∙ omega (arith, others-feeds fs p)

-- and it stands at the end: nothing before it
pub no-feed : (s : List ℕ) → feeds s ≡ 0 → feed_in s ≡ 0
unfolding feeds feed_in
no-feed [] h = refl
no-feed (b ∷ s) h = go (eqb b 10) refl (no-feed s)
  where
    go : (t : Bool) → eqb b 10 ≡ t → (feeds s ≡ 0 → feed_in s ≡ 0) → feed_in (b ∷ s) ≡ 0
    go true e r = absurd (omega (arith, ap (λ (t : Bool). cond t 1 0 + feeds s) (sym e) ∙ h))
    go false e r = feed-cons b s false e ∙ ap one_more (r (omega (arith, ap (λ (t : Bool). cond t 1 0 + feeds s) (sym e) ∙ h)))

-- a line feed that is found behind k bytes; 0 where none is
abbrev pub past : ℕ → ℕ → ℕ
past k zero = 0
past k (suc n) = k + suc n

-- the first line feed of a text behind one that has none, or in front of another
pub feed-behind : (s t : List ℕ) → feed_in s ≡ 0 → feed_in (s ++ t) ≡ past (length s) (feed_in t)
unfolding feed_in
feed-behind [] t h = nought (feed_in t)
  where
    nought : (n : ℕ) → n ≡ past 0 n
    nought zero = refl
    nought (suc n) = omega arith
feed-behind (b ∷ s) t h = go (eqb b 10) refl (feed-behind s t)
  where
    was-none : (n : ℕ) → one_more n ≡ 0 → n ≡ 0
    was-none zero e = refl
    was-none (suc n) e = absurd (omega arith)

    shift : (n : ℕ) → one_more (past (length s) n) ≡ past (suc (length s)) n
    shift zero = refl
    shift (suc n) = one (length s) n
      where
        one : (k n : ℕ) → one_more (k + suc n) ≡ suc k + suc n
        one k n = ap one_more (regroup k n) ∙ omega arith
          where
            regroup : (k n : ℕ) → k + suc n ≡ suc (k + n)
            regroup k n = omega arith

    go : (t' : Bool) → eqb b 10 ≡ t' → (feed_in s ≡ 0 → feed_in (s ++ t) ≡ past (length s) (feed_in t)) → feed_in (b ∷ (s ++ t)) ≡ past (suc (length s)) (feed_in t)
    go true e r = absurd (omega (arith, sym (feed-cons b s true e) ∙ h))
    go false e r = feed-cons b (s ++ t) false e ∙ ap one_more (r (was-none (feed_in s) (sym (feed-cons b s false e) ∙ h))) ∙ shift (feed_in t)

pub feed-before : (s t : List ℕ) (w : ℕ) → feed_in s ≡ suc w → feed_in (s ++ t) ≡ suc w
unfolding feed_in
feed-before [] t w h = absurd (omega arith)
feed-before (b ∷ s) t w h = go (eqb b 10) refl (feed-before s t)
  where
    go : (t' : Bool) → eqb b 10 ≡ t' → ((v : ℕ) → feed_in s ≡ suc v → feed_in (s ++ t) ≡ suc v) → feed_in (b ∷ (s ++ t)) ≡ suc w
    go true e r = feed-cons b (s ++ t) true e ∙ sym (feed-cons b s true e) ∙ h
    go false e r = by (feed_in s) refl (sym (feed-cons b s false e) ∙ h)
      where
        by : (n : ℕ) → feed_in s ≡ n → one_more (feed_in s) ≡ suc w → feed_in (b ∷ (s ++ t)) ≡ suc w
        by zero f k = absurd (omega (arith, ap one_more (sym f) ∙ k))
        by (suc v) f k = feed-cons b (s ++ t) false e ∙ ap one_more (r v f ∙ sym f) ∙ k

-- the text of a request ends at its first line feed
others-end : (fs : List (List ℕ)) → Plain fs → feed_in (others fs) ≡ length (others fs)
unfolding others feed_in
others-end [] Plain.none = refl
others-end (f ∷ fs) (Plain.more h p) =
    feed-cons 9 (f ++ others fs) false refl
    ∙ ap one_more (feed-behind f (others fs) (no-feed f h) ∙ ap (past (length f)) (others-end fs p))
    ∙ go (length (others fs)) (some fs)
    ∙ ap suc (sym (length-append f (others fs)))
  where
    some : (fs : List (List ℕ)) → 0 < length (others fs)
    some [] = omega arith
    some (g ∷ gs) = omega arith

    go : (n : ℕ) → 0 < n → one_more (past (length f) n) ≡ suc (length f + n)
    go zero z = absurd (omega arith)
    go (suc n) z = ap one_more (regroup (length f) n) ∙ ap suc (sym (regroup (length f) n))
      where
        regroup : (k n : ℕ) → k + suc n ≡ suc (k + n)
        regroup k n = omega arith

pub request-end : (kind : Kind) (key : List ℕ) (bands : List Band) → KeyBytes key → feed_in (request_text kind key bands) ≡ length (request_text kind key bands)
unfolding request_text line_text others
request-end kind key bands k =
    feed-behind (kind_text kind) (others (key ∷ map band_text bands)) (no-feed (kind_text kind) (kind-feeds kind))
    ∙ ap (past (length (kind_text kind))) (others-end (key ∷ map band_text bands) (Plain.more (key-feeds key k) (bands-plain bands)))
    ∙ go (length (others (key ∷ map band_text bands))) (some key (map band_text bands))
    ∙ sym (length-append (kind_text kind) (others (key ∷ map band_text bands)))
  where
    some : (f : List ℕ) (fs : List (List ℕ)) → 0 < length (others (f ∷ fs))
    some f fs = omega arith

    go : (n : ℕ) → 0 < n → past (length (kind_text kind)) n ≡ length (kind_text kind) + n
    go zero z = absurd (omega arith)
    go (suc n) z = refl

-- ---- lines
lines_cons : (b : ℕ) (s : List ℕ) (t : Bool) → eqb b 10 ≡ t → lines_of (b ∷ s) ≡ cond t ((10 ∷ []) ∷ lines_of s) (joined b (lines_of s))
unfolding lines_of
lines_cons b s true e = rw (e, lines_of)
lines_cons b s false e = rw (e, lines_of)

after-cons : (b : ℕ) (s : List ℕ) (t : Bool) → eqb b 10 ≡ t → after_feed (b ∷ s) ≡ cond t s (after_feed s)
unfolding after_feed
after-cons b s true e = rw (e, after_feed)
after-cons b s false e = rw (e, after_feed)

feed-tail : (b : ℕ) (s : List ℕ) (w : ℕ) → eqb b 10 ≡ false → feed_in (b ∷ s) ≡ suc w → (v : ℕ) × (feed_in s ≡ suc v) × (w ≡ suc v)
feed-tail b s w e h = go (feed_in s) refl (sym (feed-cons b s false e) ∙ h)
  where
    go : (n : ℕ) → feed_in s ≡ n → one_more (feed_in s) ≡ suc w → (v : ℕ) × (feed_in s ≡ suc v) × (w ≡ suc v)
    go zero f k = absurd (omega (arith, ap one_more (sym f) ∙ k))
    go (suc v) f k = (v, f, omega (arith, ap one_more (sym f) ∙ k))

feed-none-tail : (b : ℕ) (s : List ℕ) → feed_in (b ∷ s) ≡ 0 → (eqb b 10 ≡ false) × (feed_in s ≡ 0)
feed-none-tail b s h = go (eqb b 10) refl
  where
    none : (n : ℕ) → one_more n ≡ 0 → n ≡ 0
    none zero e = refl
    none (suc n) e = absurd (omega arith)

    go : (t : Bool) → eqb b 10 ≡ t → (eqb b 10 ≡ false) × (feed_in s ≡ 0)
    go true e = absurd (omega (arith, sym (feed-cons b s true e) ∙ h))
    go false e = (e, none (feed_in s) (sym (feed-cons b s false e) ∙ h))

-- the first line, where its line feed is at hand
pub lines-first : (s t : List ℕ) (w : ℕ) → feed_in s ≡ suc w → lines_of (s ++ t) ≡ take (suc w) s ∷ lines_of (drop (suc w) s ++ t)
unfolding feed_in
lines-first [] t w h = absurd (omega arith)
lines-first (b ∷ s) t w h = go (eqb b 10) refl (lines-first s t)
  where
    one : (w : ℕ) → w ≡ 0 → eqb b 10 ≡ true → (10 ∷ []) ∷ lines_of (s ++ t) ≡ take (suc w) (b ∷ s) ∷ lines_of (drop (suc w) (b ∷ s) ++ t)
    one zero z e = ap (λ (x : ℕ). (x ∷ []) ∷ lines_of (s ++ t)) (sym (eqb-true b 10 e))
    one (suc w) z e = absurd (omega arith)

    later : (w v : ℕ) → w ≡ suc v → joined b (take (suc v) s ∷ lines_of (drop (suc v) s ++ t)) ≡ take (suc w) (b ∷ s) ∷ lines_of (drop (suc w) (b ∷ s) ++ t)
    later w v e = ap (λ (k : ℕ). take (suc k) (b ∷ s) ∷ lines_of (drop (suc k) (b ∷ s) ++ t)) (sym e)

    go : (t' : Bool) → eqb b 10 ≡ t' → ((v : ℕ) → feed_in s ≡ suc v → lines_of (s ++ t) ≡ take (suc v) s ∷ lines_of (drop (suc v) s ++ t))
        → lines_of (b ∷ (s ++ t)) ≡ take (suc w) (b ∷ s) ∷ lines_of (drop (suc w) (b ∷ s) ++ t)
    go true e r = lines_cons b (s ++ t) true e ∙ one w (omega (arith, sym (feed-cons b s true e) ∙ h)) e
    go false e r =
        let f = feed-tail b s w e h in
        lines_cons b (s ++ t) false e ∙ ap (joined b) (r f.0 f.1) ∙ later w f.0 f.2

-- a last line without one
pub lines-last : (b : ℕ) (s : List ℕ) → feed_in (b ∷ s) ≡ 0 → lines_of (b ∷ s) ≡ (b ∷ s) ∷ []
unfolding lines_of
lines-last b [] h = lines_cons b [] false (feed-none-tail b [] h).0
lines-last b (c ∷ s) h =
    lines_cons b (c ∷ s) false (feed-none-tail b (c ∷ s) h).0 ∙ ap (joined b) (lines-last c s (feed-none-tail b (c ∷ s) h).1)

pub after_none : (s t : List ℕ) → feed_in s ≡ 0 → after_feed (s ++ t) ≡ after_feed t
after_none [] t h = refl
after_none (b ∷ s) t h = after-cons b (s ++ t) false (feed-none-tail b s h).0 ∙ after_none s t (feed-none-tail b s h).1

pub after_first : (s t : List ℕ) (w : ℕ) → feed_in s ≡ suc w → after_feed (s ++ t) ≡ drop (suc w) s ++ t
unfolding feed_in
after_first [] t w h = absurd (omega arith)
after_first (b ∷ s) t w h = go (eqb b 10) refl (after_first s t)
  where
    one : (w : ℕ) → w ≡ 0 → s ++ t ≡ drop (suc w) (b ∷ s) ++ t
    one zero z = refl
    one (suc w) z = absurd (omega arith)

    later : (w v : ℕ) → w ≡ suc v → drop (suc v) s ++ t ≡ drop (suc w) (b ∷ s) ++ t
    later w v e = ap (λ (k : ℕ). drop (suc k) (b ∷ s) ++ t) (sym e)

    go : (t' : Bool) → eqb b 10 ≡ t' → ((v : ℕ) → feed_in s ≡ suc v → after_feed (s ++ t) ≡ drop (suc v) s ++ t) → after_feed (b ∷ (s ++ t)) ≡ drop (suc w) (b ∷ s) ++ t
    go true e r = after-cons b (s ++ t) true e ∙ one w (omega (arith, sym (feed-cons b s true e) ∙ h))
    go false e r = let f = feed-tail b s w e h in after-cons b (s ++ t) false e ∙ r f.0 f.1 ∙ later w f.0 f.2

-- a line begun, and the rest of it
abbrev pub rest_by : ℕ → List ℕ → List ℕ
rest_by zero t = t
rest_by (suc w) t = take (suc w) t

whole-lines : (t : List ℕ) → (0 < length t) → lines_of t ≡ rest_by (feed_in t) t ∷ lines_of (after_feed t)
unfolding lines_of after_feed
whole-lines [] z = absurd (omega arith)
whole-lines (b ∷ t) z = go (feed_in (b ∷ t)) refl
  where
    go : (n : ℕ) → feed_in (b ∷ t) ≡ n → lines_of (b ∷ t) ≡ rest_by n (b ∷ t) ∷ lines_of (after_feed (b ∷ t))
    go zero e = lines-last b t e ∙ ap (λ (l : List ℕ). (b ∷ t) ∷ lines_of l) (sym (ap after_feed (sym (append-nil (b ∷ t))) ∙ after_none (b ∷ t) [] e))
    go (suc w) e =
        ap lines_of (sym (append-nil (b ∷ t))) ∙ lines-first (b ∷ t) [] w e
        ∙ ap (λ (l : List ℕ). take (suc w) (b ∷ t) ∷ lines_of l) (sym (after_first (b ∷ t) [] w e) ∙ ap after_feed (append-nil (b ∷ t)))

pub lines-begun : (b : ℕ) (s t : List ℕ) → feed_in (b ∷ s) ≡ 0 → lines_of (b ∷ (s ++ t)) ≡ (b ∷ (s ++ rest_by (feed_in t) t)) ∷ lines_of (after_feed t)
unfolding lines_of after_feed feed_in
lines-begun b [] [] h = lines_cons b [] false (feed-none-tail b [] h).0
lines-begun b [] (c ∷ t) h = lines_cons b (c ∷ t) false (feed-none-tail b [] h).0 ∙ ap (joined b) (whole-lines (c ∷ t) (omega arith))
lines-begun b (c ∷ s) t h = lines_cons b (c ∷ (s ++ t)) false (feed-none-tail b (c ∷ s) h).0 ∙ ap (joined b) (lines-begun c s t (feed-none-tail b (c ∷ s) h).1)
