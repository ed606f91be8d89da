-- The answers of the line call and the block call: bytes for one lent array, counts for another.
use Rattle.std.specs.Prelude.{Bool, true, false, cond, List, [], ◌∷◌, ℕ, zero, suc, leb, length}
use Rattle.reply.specs.Answers.{answer_of}
use Rattle.line.specs.Answers.{placed, wrote_of, wrote_answer}
use Rattle.line.specs.Blocks.{Block, block_of}
use Rattle.quantity.specs.Answers.{Answer}
use Rattle.laws.specs.Lists.{front}
use Rattle.quantity.specs.Answers.Answer.{numbers}
use Rattle.laws.specs.Extremes.{one_if}

-- imbrolt_answer_line: the length of the answer line
unfoldable pub line_answer : List ℕ → List ℕ → ℕ → Answer ℕ
line_answer line out at = wrote_answer (wrote_of out at (answer_of line))

-- what the output then holds, with so many places lent for the length
unfoldable pub line_held : List ℕ → List ℕ → ℕ → ℕ → List ℕ
line_held line out at places = cond (leb 1 places) (placed out at (answer_of line)) out

-- "skipping and last: 0 or not"
abbrev pub is_set : ℕ → Bool
is_set zero = false
is_set (suc n) = true

-- imbrolt_answer_block: bytes used, bytes written, and the flag for the next call
abbrev pub block_numbers : Block → List ℕ
block_numbers b = b.used ∷ length b.text ∷ one_if b.skipping ∷ []

-- one call's block, with so many places of output
abbrev pub block_by : List ℕ → ℕ → ℕ → ℕ → Block
block_by input room skipping last = block_of input room (is_set skipping) (is_set last)

unfoldable pub block_answer : List ℕ → ℕ → ℕ → ℕ → Answer ℕ
block_answer input room skipping last = numbers (block_numbers (block_by input room skipping last))

-- what the output then holds, with so many places lent for the progress
unfoldable pub block_held : List ℕ → List ℕ → ℕ → ℕ → ℕ → List ℕ
block_held input out skipping last places =
    cond (leb 3 places) (front (block_by input (length out) skipping last).text out) out
