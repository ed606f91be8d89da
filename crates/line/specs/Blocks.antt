-- A run in parts: what one block call answers, and what it carries on.
use Rattle.std.specs.Prelude.{Bool, true, false, cond, List, [], ◌∷◌, ◌++◌, ◌≡◌, ℕ, zero, suc, ◌+◌, ◌-◌, ◌≤◌, leb, ltb, eqb, length, take, drop, Option, None, Some, option_map}
use Rattle.line.specs.declared.blocks.Piece.{Piece}
use Rattle.line.specs.declared.blocks.Progress.{Progress}
use Rattle.answer.specs.Texts.{line_feed}
use Rattle.reply.specs.Answers.{reply_at, reply_text}
use Rattle.line.specs.Answers.{answers_of}
use Rattle.laws.specs.Lists.{front}

-- how many bytes stand in front up to and with the first line feed; 0 where there is none
abbrev pub one_more : ℕ → ℕ
one_more zero = 0
one_more (suc n) = suc (suc n)

unfoldable pub feed_in : List ℕ → ℕ
feed_in [] = 0
feed_in (b ∷ s) = elim (eqb b line_feed) [ true ↦ 1 | false ↦ one_more (feed_in s) ]

abbrev pub moved_by : ℕ → ℕ → Option ℕ
moved_by at zero = None
moved_by at (suc n) = Some (at + suc n)

-- the position after the first line feed from a position on, if there is one
unfoldable pub feed_after : List ℕ → ℕ → Option ℕ
feed_after s at = moved_by at (feed_in (drop at s))

-- the next piece of a part that asks for an answer: a request, which ends at `next`; a line that is none (no `next`); "a longer
-- line" whose line feed is not in the part, to be skipped to its line feed; at the end of the input, what is left. None: the
-- position stays
abbrev pub rest_piece : ℕ → ℕ → Bool → Piece
rest_piece at n last =
    cond (leb (at + 512) n) (record { next = n; skipping = true })
    (cond last (record { next = n; skipping = false }) (record { next = at; skipping = false }))

abbrev pub feed_piece : ℕ → ℕ → Option ℕ → Bool → Piece
feed_piece at n None last = rest_piece at n last
feed_piece at n (Some end) last = record { next = end; skipping = false }

unfoldable pub piece_at : List ℕ → ℕ → Bool → Option ℕ → Piece
piece_at s at last None = feed_piece at (length s) (feed_after s at) last
piece_at s at last (Some next) = record { next = next; skipping = false }

-- one turn: skip, or answer the next piece if there is room
pub record Step : Type 0 where
  pub next : ℕ
  pub text : List ℕ
  pub skipping : Bool

abbrev pub skip_by : ℕ → Option ℕ → Step
skip_by n None = record { next = n; text = []; skipping = true }
skip_by n (Some end) = record { next = end; text = []; skipping = false }

abbrev pub answer_by : ℕ → ℕ → List ℕ → Piece → Step
answer_by at room text p =
    cond (eqb p.next at) (record { next = at; text = []; skipping = false })
    (cond (leb (length text) room) (record { next = p.next; text = text; skipping = p.skipping })
    (record { next = at; text = []; skipping = false }))

unfoldable pub step_at : List ℕ → ℕ → ℕ → Bool → Bool → Step
step_at s at room skipping last = elim skipping [
  | true ↦ skip_by (length s) (feed_after s at)
  | false ↦ answer_by at room (reply_text s (reply_at s at)) (piece_at s at last (option_map (λ r. r.next) (reply_at s at)))
]

-- turns until one takes nothing, or nothing is left
pub record Block : Type 0 where
  pub used : ℕ
  pub text : List ℕ
  pub skipping : Bool

unfoldable pub block_from : ℕ → List ℕ → ℕ → ℕ → List ℕ → Bool → Bool → Block
block_from zero s room at text skipping last = record { used = at; text = text; skipping = skipping }
block_from (suc more) s room at text skipping last =
    let step = step_at s at (room - length text) skipping last in
    elim (ltb at (length s)) [
      | true ↦ elim (eqb step.next at) [
        | true ↦ record { used = at; text = text; skipping = skipping }
        | false ↦ block_from more s room step.next (text ++ step.text) step.skipping last
      ]
      | false ↦ record { used = at; text = text; skipping = skipping }
    ]

unfoldable pub block_of : List ℕ → ℕ → Bool → Bool → Block
block_of s room skipping last = block_from (length s) s room 0 [] skipping last

-- what the code makes of a step, and of a block: its text stands in the output behind what was written before, the rest is kept
pub record Turned (step : Step) (before : List ℕ) (wrote : ℕ) (r : Progress) (after : List ℕ) : Type 0 where
  pub used : r.used ≡ step.next
  pub wrote-is : r.wrote ≡ wrote + length step.text
  pub skipping : r.skipping ≡ step.skipping
  pub out : after ≡ take wrote before ++ (step.text ++ drop (wrote + length step.text) before)
  pub fits : wrote + length step.text ≤ length before

pub record Answered (block : Block) (input before : List ℕ) (r : Progress) (after : List ℕ) : Type 0 where
  pub used : r.used ≡ block.used
  pub wrote : r.wrote ≡ length block.text
  pub skipping : r.skipping ≡ block.skipping
  pub out : after ≡ front block.text before
  pub within : r.used ≤ length input
  pub fits : r.wrote ≤ length before

-- What a run is, whatever is carried: the answers of what is left, after the rest of a long line that was answered.
unfoldable pub after_feed : List ℕ → List ℕ
after_feed [] = []
after_feed (b ∷ s) = elim (eqb b line_feed) [ true ↦ s | false ↦ after_feed s ]

abbrev pub answers_from : Bool → List ℕ → List ℕ
answers_from true s = answers_of (after_feed s)
answers_from false s = answers_of s

-- A run by block calls: `pending` bytes wait, `skipping` is carried, `future` is still to come, and `out` is all that is
-- written from here on. Any further part of the input may be read into what waits; a call answers what waits, with any room;
-- once the input has ended, calls may say so.
pub data Run : List ℕ → Bool → List ℕ → List ℕ → Type 0 where
  done : {skipping : Bool} → Run [] skipping [] []
  read : (pending chunk future : List ℕ) (skipping : Bool) (out : List ℕ)
      → Run (pending ++ chunk) skipping future out
      → Run pending skipping (chunk ++ future) out
  part : (pending future : List ℕ) (skipping : Bool) (room : ℕ) (out : List ℕ)
      → Run (drop (block_of pending room skipping false).used pending) (block_of pending room skipping false).skipping future out
      → Run pending skipping future ((block_of pending room skipping false).text ++ out)
  end : (pending : List ℕ) (skipping : Bool) (room : ℕ) (out : List ℕ)
      → Run (drop (block_of pending room skipping true).used pending) (block_of pending room skipping true).skipping [] out
      → Run pending skipping [] ((block_of pending room skipping true).text ++ out)
