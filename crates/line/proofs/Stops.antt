-- When the block call stops. It "answers the whole lines of a part of the input for which the output has room": a turn that takes
-- nothing has no whole line, or no room for the next answer, and each other turn takes a byte at least, so that the turns do not
-- run out. And two outcomes that its promise allows coincide. Assumes nothing.
use mathlib.Core.Path.{◌≡◌, refl, sym, ◌∙◌, ap, subst}
use mathlib.Core.Bool.{Bool, true, false}
use Rattle.std.specs.Prelude.{None}
use mathlib.Core.List.{List, [], ◌∷◌, ◌++◌}
use Prim.Native.Nat.{ℕ, ◌+◌, ◌-◌, ◌≤◌, ◌<◌}
use native.Mathlib.Omega.{arith}
use lib.ListN.{length, drop, length-drop}
use Rattle.line.specs.declared.blocks.Piece.{Piece}
use Rattle.line.specs.declared.blocks.Progress.{Progress}
use Rattle.request.specs.Reading.{Asked, request_at}
use Rattle.request.specs.Reading.Asked.{asked}
use Rattle.reply.specs.Answers.{answer_of, reply_to, reply_at}
use Rattle.line.specs.Answers.{lines_of}
use Rattle.line.specs.Blocks.{feed_in, Step, step_at, Block, block_of, Answered}
use Rattle.request.proofs.Wholes.{RequestGood, request-ok, text-length}
use Rattle.line.proofs.Turns.{reply-ahead, piece_of, Found, found, Came, came}
use Rattle.line.proofs.Runs.{by-turns}
use Rattle.line.proofs.Meaning.{feed-there, piece-first}
use Rattle.line.proofs.Lengths.{answer-short}

-- no whole line: nothing is skipped, the input goes on, and what is left has no line feed and is not yet too long for a request
pub record Waiting (s : List ℕ) (skip last : Bool) : Type 0 where
  pub free : skip ≡ false
  pub open-end : last ≡ false
  pub no-feed : feed_in s ≡ 0
  pub short : length s < 512

-- a line, and no room for its answer behind what was written
pub record Full (s : List ℕ) (room wrote : ℕ) : Type 0 where
  pub line : List ℕ
  pub later : List (List ℕ)
  pub lines : lines_of s ≡ line ∷ later
  pub over : room < wrote + length (answer_of line)

-- Why a call stops, each time one of three: nothing is left; no whole line is left; or one is, and whatever follows the part, its
-- answer has no room.
pub data Stop (s : List ℕ) (room : ℕ) (last : Bool) (b : Block) : Type 0 where
  all-used : b.used ≡ length s → Stop s room last b
  no_line : b.used < length s → Waiting (drop b.used s) b.skipping last → Stop s room last b
  no_room : b.used < length s → (Waiting (drop b.used s) b.skipping last → ⊥) → b.skipping ≡ false
      → ((F : List ℕ) → (last ≡ true → F ≡ []) → Full (drop b.used s ++ F) room (length b.text))
      → Stop s room last b

-- ---- a piece stays where no whole line is, and nowhere else
module _ (s : List ℕ) (at : ℕ) (last : Bool) (some : at < length s) where
  -- without a line feed there is no request
  none_read : feed_in (drop at s) ≡ 0 → reply_at s at ≡ None
  unfolding reply_at reply_to
  none_read f = go (request_at s at) (request-ok s at)
    where
      go : (a : Asked) → RequestGood s at a → reply_to at a ≡ None
      go Asked.nothing g = refl
      go (asked kind key bands next) g = absurd (omega (arith, feed-there s at kind key bands next g, text-length kind key bands))

  waits-still : Waiting (drop at s) false last → (piece_of s at last).next ≡ at
  waits-still w = go (found s at last)
    where
      go : {p : Piece} → Found s at last p → p.next ≡ at
      go (Found.request r e) = let z = none_read w.no-feed in cc
      go (Found.line v z f) = absurd (omega (arith, f, w.no-feed))
      go (Found.long z f l) = absurd (omega (arith, w.short, length-drop at s))
      go (Found.rest z f l) = let o = w.open-end in cc
      go (Found.none f l q) = refl

  still-waits : (piece_of s at last).next ≡ at → Waiting (drop at s) false last
  still-waits = go (found s at last)
    where
      go : {p : Piece} → Found s at last p → p.next ≡ at → Waiting (drop at s) false last
      go (Found.request r z) e = absurd (omega (arith, reply-ahead s at r z))
      go (Found.line w z f) e = absurd (omega arith)
      go (Found.long z f l) e = absurd (omega arith)
      go (Found.rest z f l) e = absurd (omega arith)
      go (Found.none f l q) e = record { free = refl; open-end = q; no-feed = f; short = omega (arith, length-drop at s) }

  -- a turn that takes nothing
  still-stop : (room : ℕ) (text : List ℕ) (skip : Bool) → (step_at s at (room - length text) skip last).next ≡ at
      → Stop s room last (record { used = at; text = text; skipping = skip })
  still-stop room text skip = go (came s at (room - length text) skip last)
    where
      go : {b : Bool} {x : Step} → Came s at (room - length text) last b x → x.next ≡ at → Stop s room last (record { used = at; text = text; skipping = b })
      go (Came.past f) e = absurd (omega arith)
      go (Came.fed w f) e = absurd (omega arith)
      go (Came.none z) e = Stop.no_line some (still-waits z)
      go (Came.told z) e = absurd (z e)
      go (Came.full z l) e =
          Stop.no_room some (λ w. z (waits-still w)) refl
          (λ F q. let f = piece-first s at F last some q z in record {
            line = f.line;
            later = lines_of f.rest;
            lines = f.lines;
            over = omega (arith, ap length f.answer);
          })

-- ---- a block
pub stops : (s : List ℕ) (room : ℕ) (skip last : Bool) → Stop s room last (block_of s room skip last)
unfolding block_of
stops s room skip last =
    by-turns s room last (λ at text skip b. Stop s room last b) (λ at text skip e. Stop.all-used e)
    (λ at text skip h e. still-stop s at last h room text skip e) (λ at text skip b h a r. r) (length s) 0 [] skip (omega arith) (omega arith)

-- a call that takes nothing leaves all as it is
pub none-used : (s : List ℕ) (room : ℕ) (skip last : Bool) → (block_of s room skip last).used ≡ 0
    → block_of s room skip last ≡ record { used = 0; text = []; skipping = skip }
unfolding block_of
none-used s room skip last e =
    (by-turns s room last Kept (λ at text skip h. (omega arith, λ z. refl)) (λ at text skip h z. (omega arith, λ y. refl))
    (λ at text skip b h a r. (omega (arith, r.0), λ y. absurd (omega (arith, r.0)))) (length s) 0 [] skip (omega arith) (omega arith)).1 e
  where
    Kept : ℕ → List ℕ → Bool → Block → Type 0
    Kept at text skip b = (at ≤ b.used) × (b.used ≡ at → b ≡ record { used = at; text = text; skipping = skip })

-- ---- every call gets on: with room for any one answer, it takes nothing only where it has to wait
pub gets-on : (s : List ℕ) (room : ℕ) → 64 ≤ room → 0 < length s → (skip last : Bool) → (block_of s room skip last).used ≡ 0 → Waiting s skip last
gets-on s room wide some skip last e = stopped (subst (Stop s room last) (none-used s room skip last e) (stops s room skip last))
  where
    stopped : Stop s room last (record { used = 0; text = []; skipping = skip }) → Waiting s skip last
    stopped (Stop.all-used f) = absurd (omega arith)
    stopped (Stop.no_line h w) = w
    stopped (Stop.no_room h w f left) = let l = left [] (λ q. refl) in absurd (omega (arith, answer-short l.line, l.over))

-- ---- one outcome
pub one-outcome : {block : Block} {input before : List ℕ} {r r' : Progress} {after after' : List ℕ}
    → Answered block input before r after → Answered block input before r' after' → (r ≡ r') × (after ≡ after')
one-outcome {r = r} {r' = r'} a a' =
    let same : ◌≡◌ {A = Progress} (record { used = r.used; wrote = r.wrote; skipping = r.skipping }) (record { used = r'.used; wrote = r'.wrote; skipping = r'.skipping }) = cc in
    (same, a.out ∙ sym a'.out)
