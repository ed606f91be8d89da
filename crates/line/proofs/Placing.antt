-- The request that a whole line is: what was read from its start, if that ends with the line. Assumes nothing.
use mathlib.Core.Path.{◌≡◌, refl, sym, ap}
use mathlib.Core.Bool.{Bool, true, false, cond}
use mathlib.Core.List.{List}
use Prim.Native.Nat.{ℕ}
use lib.Dec.{leb, eqb}
use lib.ListN.{length}
use Rattle.std.specs.Prelude.{Option, Some, None, IfSome}
use Rattle.std.proofs.lemmas.Map.Entries.{option_filter}
use Rattle.answer.specs.Texts.{rated_text}
use Rattle.request.specs.Reading.{Asked, request_at, whole, request_of}
use Rattle.request.specs.Reading.Asked.{asked}
use Rattle.reply.specs.declared.requests.Reply.{Reply}
use Rattle.reply.specs.Answers.{judged, answer_to, answer_of, reply_to, reply_at, reply_text, Keyed}
use Rattle.request.proofs.Wholes.{RequestGood, request-ok}
use Rattle.reply.proofs.Replies.{reply_keyed}

abbrev pub ending : ℕ → Option Reply → Option Reply
ending n = option_filter (λ (r : Reply). eqb r.next n)

by-asked : (line : List ℕ) (a : Asked) → RequestGood line 0 a → reply_text line (ending (length line) (reply_to 0 a)) ≡ answer_to (whole (length line) a)
unfolding reply_to reply_text
by-asked line Asked.nothing g = refl
by-asked line (asked kind key bands next) g = go (leb next 512) (eqb next (length line)) refl refl
  where
    go : (t u : Bool) → leb next 512 ≡ t → eqb next (length line) ≡ u
        → reply_text line (ending (length line) (reply_to 0 (asked kind key bands next))) ≡ answer_to (whole (length line) (asked kind key bands next))
    go true true p q = rw (p, q) (ap (λ (l : List ℕ). rated_text kind l (judged kind bands)) (sym g.key-is))
    go true false p q = rw (p, q)
    go false true p q = rw (p, q)
    go false false p q = rw (p, q)

pub line-whole : (line : List ℕ) → reply_text line (ending (length line) (reply_at line 0)) ≡ answer_of line
unfolding answer_of request_of reply_at
line-whole line = by-asked line (request_at line 0) (request-ok line 0)

pub line-keyed : (line : List ℕ) → IfSome (ending (length line) (reply_at line 0)) (Keyed line)
line-keyed line = go (reply_at line 0) (reply_keyed line 0)
  where
    go : (o : Option Reply) → IfSome o (Keyed line) → IfSome (ending (length line) o) (Keyed line)
    go None k = tt
    go (Some r) k = by (eqb r.next (length line))
      where
        by : (t : Bool) → IfSome (cond t (Some r) None) (Keyed line)
        by true = k
        by false = tt
