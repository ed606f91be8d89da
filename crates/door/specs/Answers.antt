-- An answer at the C door: what the call returns, and what the lent array then holds.
use Rattle.std.specs.Prelude.{cond, List, ℕ, leb, length}
use Rattle.laws.specs.Lists.{front}
use Rattle.quantity.specs.Answers.{Answer}
use Rattle.quantity.specs.Answers.Answer.{refused, numbers}

-- what the call returns, with so many places lent: the refusal's number, 10 where the answer does not fit, else 0
abbrev pub returned : {A : Type 0} → Answer A → ℕ → ℕ
returned (refused n) places = n
returned (numbers xs) places = cond (leb (length xs) places) 0 10

-- what the lent array then holds; places past the answer keep their contents
abbrev pub held : {A : Type 0} → Answer A → List A → List A
held (refused n) out = out
held (numbers xs) out = cond (leb (length xs) (length out)) (front xs out) out
