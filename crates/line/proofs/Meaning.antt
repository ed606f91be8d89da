-- What a run means: however an input is cut into parts and whatever room each call is given, the outputs joined are the answers
-- of its lines, one for each, in order. A turn is right whatever follows the part; so is a block; so is a run. Assumes nothing.
use mathlib.Core.Path.{◌≡◌, refl, sym, ◌∙◌, ap, subst}
use mathlib.Core.Bool.{Bool, true, false, cond}
use mathlib.Core.List.{List, [], ◌∷◌, ◌++◌, append_assoc, append-nil}
use Prim.Native.Nat.{ℕ, zero, suc, ◌+◌, ◌-◌, ◌≤◌, ◌<◌}
use native.Mathlib.Omega.{arith}
use borrow.Author.Tests.{le-leb, leb-true}
use lib.Dec.{leb}
use lib.ListN.{length, take, drop, length-drop, take-append-drop}
use lib.Seq.{drop-drop, length-take-le, drop-length}
use Rattle.kinds.specs.declared.kinds.Kind.{Kind}
use Rattle.quantity.specs.Refusals.{number_of}
use Rattle.reply.specs.declared.requests.Reply.{Reply}
use Rattle.line.specs.declared.blocks.Piece.{Piece}
use Rattle.answer.specs.Texts.{others, line_text, decimal, number_text, term_text, set_text, kind_text, fields_of, rated_text, no_request_text}
use Rattle.request.specs.Texts.{Band, request_text}
use Rattle.request.specs.Reading.{Asked, request_at, Request, request_of}
use Rattle.request.specs.Reading.Asked.{asked}
use Rattle.request.specs.Reading.Request.{request}
use Rattle.reply.specs.Answers.{judged, answer_to, answer_of, reply_to, reply_at, reply_text}
use Rattle.line.specs.Answers.{lines_of, answers_to, answers_of}
use Rattle.line.specs.Blocks.{feed_in, Step, step_at, Block, block_of, after_feed, answers_from, Run}
use Rattle.line.specs.Blocks.Run.{done, read, part, end}
use Rattle.request.proofs.Stands.{Stands, taken}
use Rattle.request.proofs.Wholes.{RequestAt, RequestGood, request-ok, request-here, part-stands, text-length, IsText, text_of, means}
use Rattle.line.proofs.Turns.{feed-most, piece_of, Found, found, Came, came}
use Rattle.line.proofs.Runs.{by-turns}
use Rattle.line.proofs.Feeds.{feeds, feeds-join, decimal-feeds, kind-feeds, key-feeds, minus-feeds, Plain, line-feeds, feed-before, past, feed-behind, request-end, lines-first, lines-last, lines-begun, after_none, after_first, rest_by}
use Rattle.laws.proofs.Tests.{clash}
use Rattle.std.specs.Prelude.{Result, Ok, Err, Option, Some, None}
use Rattle.quantity.specs.declared.quantities.Decibels.{Decibels}
use Rattle.quantity.specs.declared.refusals.Refusal.{Refusal}
use Rattle.rating.specs.declared.sheets.Sheet.{Sheet}

-- ---- a line that is no request, and one that is
-- a request ends at its first line feed and is short
text-feed : (line : List ℕ) (kind : Kind) (key : List ℕ) (bands : List Band) → IsText line kind key bands → feed_in line ≡ length line
text-feed line kind key bands t =
    ap feed_in t.is ∙ request-end kind key bands t.key-ok.each ∙ ap length (sym t.is)

pub no-request : (line : List ℕ) → ((kind : Kind) (key : List ℕ) (bands : List Band) → IsText line kind key bands → ⊥) → answer_of line ≡ no_request_text
unfolding answer_of
no-request line f = go (request_of line) refl
  where
    go : (r : Request) → request_of line ≡ r → answer_to r ≡ no_request_text
    go Request.none e = refl
    go (request kind key bands) e = absurd (f kind key bands (text_of line kind key bands e))

-- no line feed: no request
unended : (line : List ℕ) → feed_in line ≡ 0 → 0 < length line → answer_of line ≡ no_request_text
unended line h z = no-request line (λ kind key bands t. omega (arith, text-feed line kind key bands t))

-- ---- what stands from a position on
module _ (s : List ℕ) (at : ℕ) where
  rest : List ℕ
  rest = drop at s

  -- a request found there is the first line
  module _ (kind : Kind) (key : List ℕ) (bands : List Band) (next : ℕ) (g : RequestAt s at kind key bands next) where
    abbrev text : List ℕ
    text = request_text kind key bands

    text-there : take (length text) (drop at s) ≡ text
    text-there = taken s text at g.stands

    some : 0 < length text
    some = omega (arith, text-length kind key bands)

    rest-is : drop at s ≡ text ++ drop next s
    rest-is =
        sym (take-append-drop (length text) (drop at s))
        ∙ ap (λ (l : List ℕ). l ++ drop (length text) (drop at s)) text-there
        ∙ ap (λ (l : List ℕ). text ++ l) (drop-drop (length text) at s ∙ ap (λ (k : ℕ). drop k s) (sym g.ends))

    pub feed-there : feed_in (drop at s) ≡ length text
    feed-there = by (length text) refl
      where
        by : (n : ℕ) → length text ≡ n → feed_in (drop at s) ≡ length text
        by zero e = absurd (omega (arith, some))
        by (suc w) e = ap feed_in rest-is ∙ feed-before text (drop next s) w (request-end kind key bands g.key-ok.each ∙ e) ∙ sym e

    first-line : (F : List ℕ) → lines_of (drop at s ++ F) ≡ text ∷ lines_of (drop next s ++ F)
    first-line F = by (length text) refl
      where
        by : (n : ℕ) → length text ≡ n → lines_of (drop at s ++ F) ≡ text ∷ lines_of (drop next s ++ F)
        by zero e = absurd (omega (arith, some))
        by (suc w) e =
            lines-first (drop at s) F w (feed-there ∙ e)
            ∙ ap (λ (k : ℕ). take k (drop at s) ∷ lines_of (drop k (drop at s) ++ F)) (sym e)
            ∙ ap (λ (l : List ℕ). l ∷ lines_of (drop (length text) (drop at s) ++ F)) text-there
            ∙ ap (λ (l : List ℕ). text ∷ lines_of (l ++ F)) (drop-drop (length text) at s ∙ ap (λ (k : ℕ). drop k s) (sym g.ends))

    answer-there : next ≤ at + 512 → answer_of text ≡ rated_text kind key (judged kind bands)
    unfolding answer_of
    answer-there h =
        ap answer_to (means text kind key bands
        (record { is = refl; key-ok = g.key-ok; bands-ok = g.bands-ok; some = g.some; short = omega (arith, g.ends) }))

  -- where none is found, the first line is none
  none-there : (w : ℕ) → feed_in (drop at s) ≡ suc w → at ≤ length s → reply_at s at ≡ None → answer_of (take (suc w) (drop at s)) ≡ no_request_text
  unfolding reply_at reply_to
  none-there w f h z = no-request (take (suc w) (drop at s)) refused
    where
      refused : (kind : Kind) (key : List ℕ) (bands : List Band) → IsText (take (suc w) (drop at s)) kind key bands → ⊥
      refused kind key bands t =
          let size : length (take (suc w) (drop at s)) ≡ suc w = length-take-le (suc w) (drop at s) (omega (arith, feed-most (drop at s))) in
          let stands : Stands s at (request_text kind key bands) = subst (Stands s at) t.is (part-stands (suc w) s at (omega (arith, feed-most (drop at s), length-drop at s))) in
          let n : ℕ = at + length (request_text kind key bands) in
          let e : request_at s at ≡ asked kind key bands n = request-here s at kind key bands t.key-ok t.bands-ok t.some stands in
          let found : reply_to at (request_at s at) ≡ Some (record { next = n; kind = kind; key = at + 3; len = length key; rated = judged kind bands }) =
          ap (reply_to at) e
          ∙ ap (λ (b : Bool). cond b (Some (record { next = n; kind = kind; key = at + 3; len = length key; rated = judged kind bands })) None)
          (le-leb n (at + 512) (omega (arith, t.short, ap length t.is))) in
          cc

-- ---- one turn, whatever follows the part
answers-cons : (l : List ℕ) (ls : List (List ℕ)) → answers_to (l ∷ ls) ≡ answer_of l ++ answers_to ls
unfolding answers_to
answers-cons l ls = refl

-- the first line of what is left, answered
first-answered : (s l rest : List ℕ) (a : List ℕ) → lines_of s ≡ l ∷ lines_of rest → answer_of l ≡ a → answers_of s ≡ a ++ answers_of rest
unfolding answers_of
first-answered s l rest a e f = ap answers_to e ∙ answers-cons l (lines_of rest) ∙ ap (λ (x : List ℕ). x ++ answers_to (lines_of rest)) f

answers-none : answers_of [] ≡ []
unfolding answers_of lines_of answers_to
answers-none = refl

module _ (s : List ℕ) (at : ℕ) (F : List ℕ) where
  -- after a line feed
  feed-drop : (w : ℕ) → drop (suc w) (drop at s) ≡ drop (at + suc w) s
  feed-drop w = drop-drop (suc w) at s

  abbrev Means : Bool → List ℕ → Bool → ℕ → Type 0
  Means skip text skip' next = answers_from skip (drop at s ++ F) ≡ text ++ answers_from skip' (drop next s ++ F)

  -- the first line of what is left, with its answer, and what stands behind it
  pub record First (text : List ℕ) (p : Piece) : Type 0 where
    pub line : List ℕ
    pub rest : List ℕ
    pub lines : lines_of (drop at s ++ F) ≡ line ∷ lines_of rest
    pub answer : answer_of line ≡ text
    pub behind : answers_of rest ≡ answers_from p.skipping (drop p.next s ++ F)

  -- a request
  request-first : (a : Asked) → RequestGood s at a → (r : Reply) → reply_to at a ≡ Some r → First (reply_text s (Some r)) (record { next = r.next; skipping = false })
  unfolding reply_to reply_text
  request-first Asked.nothing g r z = cc
  request-first (asked kind key bands next) g r z = go (leb next (at + 512)) refl z
    where
      reply : Reply
      reply = record { next = next; kind = kind; key = at + 3; len = length key; rated = judged kind bands }

      go : (t : Bool) → leb next (at + 512) ≡ t → cond t (Some reply) None ≡ Some r → First (reply_text s (Some r)) (record { next = r.next; skipping = false })
      go true e z =
          let same : reply ≡ r = cc in
          subst (λ (x : Reply). First (reply_text s (Some x)) (record { next = x.next; skipping = false })) same
          (record {
            line = request_text kind key bands;
            rest = drop next s ++ F;
            lines = first-line s at kind key bands next g F;
            answer = answer-there s at kind key bands next g (leb-true next (at + 512) e) ∙ ap (λ (l : List ℕ). rated_text kind l (judged kind bands)) g.key-is;
            behind = refl;
          })
      go false e z = cc

  reply-first : (r : Reply) → reply_at s at ≡ Some r → First (reply_text s (reply_at s at)) (record { next = r.next; skipping = false })
  unfolding reply_at
  reply-first r e =
      subst (λ (o : Option Reply). First (reply_text s o) (record { next = r.next; skipping = false })) (sym e) (request-first (request_at s at) (request-ok s at) r e)

  -- a line that is none
  none_first : at ≤ length s → reply_at s at ≡ None → (w : ℕ) → feed_in (drop at s) ≡ suc w → First no_request_text (record { next = at + suc w; skipping = false })
  none_first h z w f = record {
    line = take (suc w) (drop at s);
    rest = drop (at + suc w) s ++ F;
    lines = lines-first (drop at s) F w f ∙ ap (λ (l : List ℕ). take (suc w) (drop at s) ∷ lines_of (l ++ F)) (feed-drop w);
    answer = none-there s at w f h z;
    behind = refl;
  }

  at-end : (F : List ℕ) → F ≡ drop (length s) s ++ F
  at-end F = ap (λ (l : List ℕ). l ++ F) (sym (drop-length s))

  -- a long line begun: the rest of it is to be skipped
  long-first : feed_in (drop at s) ≡ 0 → 512 ≤ length (drop at s) → First no_request_text (record { next = length s; skipping = true })
  long-first f h = go (drop at s) refl f h
    where
      go : (l : List ℕ) → drop at s ≡ l → feed_in l ≡ 0 → 512 ≤ length l → First no_request_text (record { next = length s; skipping = true })
      go [] e f h = absurd (omega arith)
      go (b ∷ l) e f h = record {
        line = b ∷ (l ++ rest_by (feed_in F) F);
        rest = after_feed F;
        lines = ap (λ (x : List ℕ). lines_of (x ++ F)) e ∙ lines-begun b l F f;
        answer = no-request (b ∷ (l ++ rest_by (feed_in F) F)) (λ kind key bands t. refused (feed_in (rest_by (feed_in F) F)) refl kind key bands t);
        behind = ap (λ (x : List ℕ). answers_of (after_feed x)) (at-end F);
      }
        where
          refused : (n : ℕ) → feed_in (rest_by (feed_in F) F) ≡ n → (kind : Kind) (key : List ℕ) (bands : List Band) → IsText (b ∷ (l ++ rest_by (feed_in F) F)) kind key bands → ⊥
          refused zero q kind key bands t =
              omega (arith, text-feed (b ∷ (l ++ rest_by (feed_in F) F)) kind key bands t, feed-behind (b ∷ l) (rest_by (feed_in F) F) f ∙ ap (past (suc (length l))) q)
          refused (suc n) q kind key bands t =
              omega (arith, text-feed (b ∷ (l ++ rest_by (feed_in F) F)) kind key bands t, feed-behind (b ∷ l) (rest_by (feed_in F) F) f ∙ ap (past (suc (length l))) q, t.short)

  -- what is left when the input ends
  last-first : F ≡ [] → feed_in (drop at s) ≡ 0 → at < length s → First no_request_text (record { next = length s; skipping = false })
  unfolding lines_of
  last-first e f h = go (drop at s) refl f
    where
      go : (l : List ℕ) → drop at s ≡ l → feed_in l ≡ 0 → First no_request_text (record { next = length s; skipping = false })
      go [] q f = absurd (omega (arith, length-drop at s, ap length q))
      go (b ∷ l) q f = record {
        line = b ∷ l;
        rest = [];
        lines = ap (λ (x : List ℕ). lines_of (x ++ F)) q ∙ ap (λ (x : List ℕ). lines_of ((b ∷ l) ++ x)) e ∙ ap lines_of (append-nil (b ∷ l)) ∙ lines-last b l f;
        answer = unended (b ∷ l) f (omega arith);
        behind = ap answers_of (sym e ∙ at-end F);
      }

  -- the next piece
  pub piece-first : (last : Bool) → at < length s → (last ≡ true → F ≡ []) → ((piece_of s at last).next ≡ at → ⊥)
      → First (reply_text s (reply_at s at)) (piece_of s at last)
  unfolding reply_text
  piece-first last h e = go (found s at last)
    where
      no-reply : {p : Piece} → reply_at s at ≡ None → First no_request_text p → First (reply_text s (reply_at s at)) p
      no-reply {p = p} z f = subst (λ (x : List ℕ). First x p) (sym (ap (reply_text s) z)) f

      go : {p : Piece} → Found s at last p → (p.next ≡ at → ⊥) → First (reply_text s (reply_at s at)) p
      go (Found.request r z) n = reply-first r z
      go (Found.line w z f) n = no-reply z (none_first (omega arith) z w f)
      go (Found.long z f l) n = no-reply z (long-first f (omega (arith, length-drop at s)))
      go (Found.rest z f l) n = no-reply z (last-first (e l) f h)
      go (Found.none f l q) n = absurd (n refl)

  -- a turn
  step-means : (room : ℕ) (skip last : Bool) → at < length s → (last ≡ true → F ≡ [])
      → Means skip (step_at s at room skip last).text (step_at s at room skip last).skipping (step_at s at room skip last).next
  step-means room skip last h e = go (came s at room skip last)
    where
      go : {b : Bool} {x : Step} → Came s at room last b x → Means b x.text x.skipping x.next
      go (Came.past f) = ap answers_of (after_none (drop at s) F f ∙ ap after_feed (at-end F))
      go (Came.fed w f) = ap answers_of (after_first (drop at s) F w f ∙ ap (λ (l : List ℕ). l ++ F) (feed-drop w))
      go (Came.none z) = refl
      go (Came.told z) =
          let f = piece-first last h e z in
          first-answered (drop at s ++ F) f.line f.rest (reply_text s (reply_at s at)) f.lines f.answer
          ∙ ap (λ (x : List ℕ). reply_text s (reply_at s at) ++ x) f.behind
      go (Came.full z l) = refl

-- ---- a block, whatever follows the part
pub block-means : (s : List ℕ) (room : ℕ) (skip last : Bool) (F : List ℕ) → (last ≡ true → F ≡ [])
    → answers_from skip (s ++ F) ≡ (block_of s room skip last).text ++ answers_from (block_of s room skip last).skipping (drop (block_of s room skip last).used s ++ F)
unfolding block_of
block-means s room skip last F e = by-turns s room last Whole (λ at text skip h. refl) (λ at text skip h z. refl) on (length s) 0 [] skip (omega arith) (omega arith)
  where
    Whole : ℕ → List ℕ → Bool → Block → Type 0
    Whole at text skip b = text ++ answers_from skip (drop at s ++ F) ≡ b.text ++ answers_from b.skipping (drop b.used s ++ F)

    on : (at : ℕ) (text : List ℕ) (skip : Bool) (b : Block) → at < length s → at < (step_at s at (room - length text) skip last).next
        → Whole (step_at s at (room - length text) skip last).next (text ++ (step_at s at (room - length text) skip last).text) (step_at s at (room - length text) skip last).skipping b
        → Whole at text skip b
    on at text skip b h a r =
        let step : Step = step_at s at (room - length text) skip last in
        ap (λ (l : List ℕ). text ++ l) (step-means s at F (room - length text) skip last h e)
        ∙ sym (append_assoc text step.text (answers_from step.skipping (drop step.next s ++ F)))
        ∙ r

-- ---- a run: "for every way of cutting an input into blocks .. the outputs joined equal `answersOf` of the whole input"
run-means : {pending : List ℕ} {skip : Bool} {future out : List ℕ} → Run pending skip future out → out ≡ answers_from skip (pending ++ future)
unfolding after_feed
run-means (done {skipping = true}) = sym answers-none
run-means (done {skipping = false}) = sym answers-none
run-means (read pending chunk future skip out r) = run-means r ∙ ap (answers_from skip) (append_assoc pending chunk future)
run-means (part pending future skip room out r) =
    ap (λ (l : List ℕ). (block_of pending room skip false).text ++ l) (run-means r)
    ∙ sym (block-means pending room skip false future (λ e. absurd (never e)))
  where
    never : ◌≡◌ {A = Bool} false true → ⊥
    never e = clash cc
run-means (end pending skip room out r) =
    ap (λ (l : List ℕ). (block_of pending room skip true).text ++ l) (run-means r) ∙ sym (block-means pending room skip true [] (λ e. refl))

pub run_is : {input out : List ℕ} → Run [] false input out → out ≡ answers_of input
run_is r = run-means r

-- ---- one answer for each line: as many line feeds in the output as lines asked
number-feeds : (z : lib.IntN.ℤ) → feeds (number_text z) ≡ 0
unfolding number_text
number-feeds (lib.IntN.pos n) = decimal-feeds n
number-feeds (lib.IntN.negsuc n) = minus-feeds (decimal (suc n)) (decimal-feeds (suc n))

term-feeds : (t : Option Decibels) → feeds (term_text t) ≡ 0
unfolding term_text feeds
term-feeds (Some d) = number-feeds d.0
term-feeds None = refl

mark-feeds : (t : Bool) → feeds (set_text t) ≡ 0
unfolding feeds
mark-feeds true = refl
mark-feeds false = refl

fields-plain : (r : Result Sheet Refusal) → Plain (fields_of r)
unfolding feeds
fields-plain (Ok s) =
    Plain.more refl (Plain.more (number-feeds s.rating.0) (Plain.more (number-feeds s.first.0) (Plain.more (term-feeds s.second)
    (Plain.more (decimal-feeds s.shifts) (Plain.more (mark-feeds s.limit) Plain.none)))))
fields-plain (Err r) = Plain.more (decimal-feeds (number_of r)) Plain.none

none-feeds : feeds no_request_text ≡ 1
unfolding no_request_text line_text others decimal Rattle.answer.specs.Texts.decimal_by feeds
none-feeds = refl

answer-feeds : (line : List ℕ) → feeds (answer_of line) ≡ 1
unfolding answer_of rated_text
answer-feeds line = go (request_of line) refl
  where
    go : (r : Request) → request_of line ≡ r → feeds (answer_to r) ≡ 1
    go Request.none e = none-feeds
    go (request kind key bands) e =
        line-feeds (kind_text kind) (key ∷ fields_of (judged kind bands)) (kind-feeds kind)
        (Plain.more (key-feeds key (text_of line kind key bands e).key-ok.each) (fields-plain (judged kind bands)))

lines-feeds : (ls : List (List ℕ)) → feeds (answers_to ls) ≡ length ls
unfolding answers_to feeds
lines-feeds [] = refl
lines-feeds (l ∷ ls) = feeds-join (answer_of l) (answers_to ls) ∙ omega (arith, answer-feeds l, lines-feeds ls)

pub one-for-each : (input : List ℕ) → feeds (answers_of input) ≡ length (lines_of input)
unfolding answers_of
one-for-each input = lines-feeds (lines_of input)
