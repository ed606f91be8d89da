-- Document 01, "Request and answer lines" and "Refusal numbers": what a whole run is, and where an answer is written.
use Rattle.std.specs.Prelude.{Bool, true, false, cond, List, [], ◌∷◌, ◌++◌, ℕ, ◌+◌, leb, eqb, length, take, drop, Result, Ok, Err}
use Rattle.quantity.specs.Refusals.{number_of}
use Rattle.quantity.specs.Answers.{Answer}
use Rattle.quantity.specs.Answers.Answer.{refused, numbers}
use Rattle.quantity.specs.declared.refusals.Refusal.{Refusal}
use Rattle.quantity.specs.declared.refusals.Refusal.TheVariants.{OutputTooSmall}
use Rattle.answer.specs.Texts.{line_feed}
use Rattle.reply.specs.Answers.{answer_of}

-- the lines of a run: each with its line feed, "a last line without its line feed included"
abbrev pub joined : ℕ → List (List ℕ) → List (List ℕ)
joined b [] = (b ∷ []) ∷ []
joined b (l ∷ ls) = (b ∷ l) ∷ ls

unfoldable pub lines_of : List ℕ → List (List ℕ)
lines_of [] = []
lines_of (b ∷ s) = elim (eqb b line_feed) [ true ↦ (line_feed ∷ []) ∷ lines_of s | false ↦ joined b (lines_of s) ]

-- one answer for each line, in order. "Empty input gives empty output."
unfoldable pub answers_to : List (List ℕ) → List ℕ
answers_to [] = []
answers_to (l ∷ ls) = answer_of l ++ answers_to ls

unfoldable pub answers_of : List ℕ → List ℕ
answers_of input = answers_to (lines_of input)

-- "The library writes an answer line from an offset that the caller names; bytes before it and after the line keep their
-- contents."  10: "lent output too small for the answer (a line with its line feed ..), or offset beyond its end"
unfoldable pub fits_at : List ℕ → ℕ → List ℕ → Bool
fits_at out at text = leb (at + length text) (length out)

unfoldable pub placed : List ℕ → ℕ → List ℕ → List ℕ
placed out at text = cond (fits_at out at text) (take at out ++ (text ++ drop (at + length text) out)) out

unfoldable pub wrote_of : List ℕ → ℕ → List ℕ → Result ℕ Refusal
wrote_of out at text = cond (fits_at out at text) (Ok (length text)) (Err OutputTooSmall)

-- in the paper's numbers: the length of the answer line, or the refusal
abbrev pub wrote_answer : Result ℕ Refusal → Answer ℕ
wrote_answer (Ok n) = numbers (n ∷ [])
wrote_answer (Err r) = refused (number_of r)
