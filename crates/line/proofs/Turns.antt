-- The block call, turn by turn: the line feed that is looked for, the next piece, and what a turn leaves. Assumes nothing.
use mathlib.Core.Path.{◌≡◌, refl, sym, ◌∙◌, ap, subst}
use mathlib.Core.Bool.{Bool, true, false, cond}
use mathlib.Core.List.{List, [], ◌∷◌, ◌++◌}
use Prim.Native.Nat.{ℕ, zero, suc, ◌+◌, ◌≤◌, ◌<◌}
use native.Mathlib.Omega.{arith}
use borrow.Author.Tests.{leb-true, leb-false, eq-eqb, ne_eqb, eqb-true, eqb-false}
use lib.Dec.{leb, eqb}
use lib.ListN.{length, take, drop, length-drop, drop_of_length-le, take-append-drop}
use lib.Seq.{drop-cons}
use Rattle.quantity.specs.Keys.{byte_at}
use Rattle.reply.specs.declared.requests.Reply.{Reply}
use Rattle.line.specs.declared.blocks.Piece.{Piece}
use Rattle.request.specs.Texts.{request_text}
use Rattle.request.specs.Reading.{Asked, request_at}
use Rattle.request.specs.Reading.Asked.{asked}
use Rattle.reply.specs.Answers.{judged, reply_to, reply_at, reply_text}
use Rattle.line.specs.Blocks.{one_more, feed_in, moved_by, feed_after, feed_piece, piece_at, Step, skip_by, step_at}
use Rattle.request.proofs.Stands.{fits}
use Rattle.request.proofs.Wholes.{RequestGood, request-ok, text-length}
use Rattle.std.specs.Prelude.{Option, Some, None, option_map}

-- ---- the next line feed
pub feed-cons : (b : ℕ) (s : List ℕ) (t : Bool) → eqb b 10 ≡ t → feed_in (b ∷ s) ≡ cond t 1 (one_more (feed_in s))
unfolding feed_in
feed-cons b s true e = rw (e, feed_in)
feed-cons b s false e = rw (e, feed_in)

module _ (s : List ℕ) (i : ℕ) where
  pub feed-here : i < length s → byte_at s i ≡ 10 → Some (i + 1) ≡ feed_after s i
  unfolding feed_after
  feed-here h e =
      sym (ap (λ (l : List ℕ). moved_by i (feed_in l)) (drop-cons s i 0 h) ∙ ap (moved_by i) (feed-cons (byte_at s i) (drop (suc i) s) true (eq-eqb (byte_at s i) 10 e)))

  pub feed-later : i < length s → (byte_at s i ≡ 10 → ⊥) → feed_after s i ≡ feed_after s (i + 1)
  unfolding feed_after
  feed-later h f =
      ap (λ (l : List ℕ). moved_by i (feed_in l)) (drop-cons s i 0 h)
      ∙ ap (moved_by i) (feed-cons (byte_at s i) (drop (suc i) s) false (ne_eqb (byte_at s i) 10 f))
      ∙ shift (feed_in (drop (suc i) s))
      ∙ ap (λ (k : ℕ). moved_by (i + 1) (feed_in (drop k s))) (next i)
    where
      next : (i : ℕ) → suc i ≡ i + 1
      next i = omega arith

      shift : (n : ℕ) → moved_by i (one_more n) ≡ moved_by (i + 1) n
      shift zero = refl
      shift (suc n) = ap Some (omega arith)

  pub feed-out : length s ≤ i → None ≡ feed_after s i
  unfolding feed_after feed_in
  feed-out h = sym (ap (λ (l : List ℕ). moved_by i (feed_in l)) (drop_of_length-le s h))

pub ruleset feed_by = (feed-here, feed-later, feed-out)

pub feed-most : (l : List ℕ) → feed_in l ≤ length l
unfolding feed_in
feed-most [] = omega arith
feed-most (b ∷ l) = go (eqb b 10) refl (feed_in l) refl (feed-most l)
  where
    go : (t : Bool) → eqb b 10 ≡ t → (n : ℕ) → feed_in l ≡ n → n ≤ length l → feed_in (b ∷ l) ≤ suc (length l)
    go true e n f h = subst (λ (k : ℕ). k ≤ suc (length l)) (sym (feed-cons b l true e)) (omega arith)
    go false e zero f h = subst (λ (k : ℕ). k ≤ suc (length l)) (sym (feed-cons b l false e ∙ ap one_more f)) (omega arith)
    go false e (suc n) f h = subst (λ (k : ℕ). k ≤ suc (length l)) (sym (feed-cons b l false e ∙ ap one_more f)) (omega arith)

-- ---- pieces
-- a reply's request lies ahead, and within
pub reply-ahead : (s : List ℕ) (at : ℕ) (r : Reply) → reply_at s at ≡ Some r → (at < r.next) × (r.next ≤ length s)
unfolding reply_at reply_to
reply-ahead s at r e = go (request_at s at) (request-ok s at) e
  where
    go : (a : Asked) → RequestGood s at a → reply_to at a ≡ Some r → (at < r.next) × (r.next ≤ length s)
    go Asked.nothing g e = cc
    go (asked kind key bands next) g e = by_length (leb next (at + 512)) e
      where
        reply : Reply
        reply = record { next = next; kind = kind; key = at + 3; len = length key; rated = judged kind bands }

        by_length : (t : Bool) → cond t (Some reply) None ≡ Some r → (at < r.next) × (r.next ≤ length s)
        by_length true e =
            let k : reply ≡ r = cc in
            let n : next ≡ r.next = ap (λ (x : Reply). x.next) k in (
              omega (arith, g.ends, text-length kind key bands),
              omega (arith, g.ends, fits s (request_text kind key bands) at (omega (arith, text-length kind key bands)) g.stands),
            )
        by_length false e = cc

-- the next piece, by what stands there
abbrev pub piece_of : List ℕ → ℕ → Bool → Piece
piece_of s at last = piece_at s at last (option_map (λ (r : Reply). r.next) (reply_at s at))

pub data Found (s : List ℕ) (at : ℕ) (last : Bool) : Piece → Type 0 where
  request : (r : Reply) → reply_at s at ≡ Some r → Found s at last (record { next = r.next; skipping = false })
  line : (w : ℕ) → reply_at s at ≡ None → feed_in (drop at s) ≡ suc w → Found s at last (record { next = at + suc w; skipping = false })
  long : reply_at s at ≡ None → feed_in (drop at s) ≡ 0 → at + 512 ≤ length s → Found s at last (record { next = length s; skipping = true })
  rest : reply_at s at ≡ None → feed_in (drop at s) ≡ 0 → last ≡ true → Found s at last (record { next = length s; skipping = false })
  none : feed_in (drop at s) ≡ 0 → length s < at + 512 → last ≡ false → Found s at last (record { next = at; skipping = false })

pub found : (s : List ℕ) (at : ℕ) (last : Bool) → Found s at last (piece_of s at last)
unfolding piece_at feed_after
found s at last = by-reply (reply_at s at) refl
  where
    by-rest : reply_at s at ≡ None → feed_in (drop at s) ≡ 0 → (t u : Bool) → leb (at + 512) (length s) ≡ t → last ≡ u
        → Found s at last (cond t (record { next = length s; skipping = true }) (cond u (record { next = length s; skipping = false }) (record { next = at; skipping = false })))
    by-rest z f true u p q = Found.long z f (leb-true (at + 512) (length s) p)
    by-rest z f false true p q = Found.rest z f q
    by-rest z f false false p q = Found.none f (leb-false (at + 512) (length s) p) q

    by-feed : reply_at s at ≡ None → (n : ℕ) → feed_in (drop at s) ≡ n → Found s at last (feed_piece at (length s) (moved_by at n) last)
    by-feed z zero f = by-rest z f (leb (at + 512) (length s)) last refl refl
    by-feed z (suc w) f = Found.line w z f

    by-reply : (o : Option Reply) → reply_at s at ≡ o → Found s at last (piece_at s at last (option_map (λ (r : Reply). r.next) o))
    by-reply None e = by-feed e (feed_in (drop at s)) refl
    by-reply (Some r) e = Found.request r e

pub piece-ahead : (s : List ℕ) (at : ℕ) (last : Bool) → at ≤ length s → (at ≤ (piece_of s at last).next) × ((piece_of s at last).next ≤ length s)
piece-ahead s at last h = go (found s at last)
  where
    go : {p : Piece} → Found s at last p → (at ≤ p.next) × (p.next ≤ length s)
    go (Found.request r e) = let b = reply-ahead s at r e in (omega arith, b.1)
    go (Found.line w z f) = (omega arith, omega (arith, feed-most (drop at s), length-drop at s))
    go (Found.long z f l) = (h, omega arith)
    go (Found.rest z f l) = (h, omega arith)
    go (Found.none f l e) = (omega arith, h)

-- a turn, by what it comes to
pub data Came (s : List ℕ) (at room : ℕ) (last : Bool) : Bool → Step → Type 0 where
  past : feed_in (drop at s) ≡ 0 → Came s at room last true (record { next = length s; text = []; skipping = true })
  fed : (w : ℕ) → feed_in (drop at s) ≡ suc w → Came s at room last true (record { next = at + suc w; text = []; skipping = false })
  none : (piece_of s at last).next ≡ at → Came s at room last false (record { next = at; text = []; skipping = false })
  told : ((piece_of s at last).next ≡ at → ⊥)
      → Came s at room last false (record { next = (piece_of s at last).next; text = reply_text s (reply_at s at); skipping = (piece_of s at last).skipping })
  full : ((piece_of s at last).next ≡ at → ⊥) → room < length (reply_text s (reply_at s at))
      → Came s at room last false (record { next = at; text = []; skipping = false })

pub came : (s : List ℕ) (at room : ℕ) (skipping last : Bool) → Came s at room last skipping (step_at s at room skipping last)
unfolding step_at feed_after
came s at room true last = go (feed_in (drop at s)) refl
  where
    go : (n : ℕ) → feed_in (drop at s) ≡ n → Came s at room last true (skip_by (length s) (moved_by at n))
    go zero f = Came.past f
    go (suc w) f = Came.fed w f
came s at room false last = go (eqb (piece_of s at last).next at) (leb (length (reply_text s (reply_at s at))) room) refl refl
  where
    still : Step
    still = record { next = at; text = []; skipping = false }

    answer : Step
    answer = record { next = (piece_of s at last).next; text = reply_text s (reply_at s at); skipping = (piece_of s at last).skipping }

    go : (t u : Bool) → eqb (piece_of s at last).next at ≡ t → leb (length (reply_text s (reply_at s at))) room ≡ u
        → Came s at room last false (cond t still (cond u answer still))
    go true u p q = Came.none (eqb-true (piece_of s at last).next at p)
    go false true p q = Came.told (eqb-false (piece_of s at last).next at p)
    go false false p q = Came.full (eqb-false (piece_of s at last).next at p) (leb-false (length (reply_text s (reply_at s at))) room q)

-- ---- turns
pub none_placed : (out : List ℕ) (w : ℕ) → out ≡ take w out ++ ([] ++ drop (w + 0) out)
none_placed out w = sym (ap (λ (n : ℕ). take w out ++ drop n out) (on w) ∙ take-append-drop w out)
  where
    on : (w : ℕ) → w + 0 ≡ w
    on w = omega arith
