-- The answers that the door gives in a way of its own, and those that fit a lent array.
use Rattle.std.specs.Prelude.{[], ◌∷◌, ◌≤◌, ℤ, Result, Ok, Err, IfOk}
use Rattle.quantity.specs.Refusals.{number_of}
use Rattle.quantity.specs.Answers.{Answer}
use Rattle.quantity.specs.Answers.Answer.{refused, numbers}
use Rattle.quantity.specs.declared.refusals.Refusal.{Refusal}
use Rattle.intake.specs.declared.singles.Taken.{Taken}
use Rattle.rating.specs.declared.sheets.Sheet.{Sheet}
use Rattle.products.specs.declared.grades.Grade.{Grade}

-- imbrolt_correct_laboratory: the level alone, which is never a limit
abbrev pub level_answer : Result Taken Refusal → Answer ℤ
level_answer (Ok x) = numbers (x.value.0 ∷ [])
level_answer (Err r) = refused (number_of r)

-- ---- between the definitions and the code

-- a sheet whose count of shifts fits an answer, as that of every rating does
abbrev pub Fitting : Result Sheet Refusal → Type 0
Fitting rated = IfOk rated (λ s. s.shifts ≤ 500)

-- a grade that fits an answer, as every grade does
abbrev pub GradeFits : Result Grade Refusal → Type 0
GradeFits graded = IfOk graded (λ g. g.grade ≤ 6)
