-- `desk_c::lifts::give_lift` meets its contract: the count fits an answer. Assumes nothing.
use mathlib.Core.Path.{sym, ◌∙◌, ap}
use mathlib.Core.List.{[], ◌∷◌}
use Prim.Native.Nat.{◌≤◌}
use native.Mathlib.Omega.{arith}
use lib.IntN.{ℤ}
use Rattle.quantity.specs.Answers.{Answer}
use Rattle.quantity.specs.Answers.Answer.{numbers}
use Rattle.quantity.proofs.Rim.{as-pos}
use Rattle.lift.specs.Calls.{count_answer}
use Rattle.lift.proofs.Answers.{count_small}
use Rattle.door.specs.Answers.{held}
use Rattle.desk.proofs.Answers.{lifted-one}
use Rattle.desk_c.proofs.lifts.give_lift.Goals as goal
use Rattle.desk_c.proofs.lifts.give_lift.Goals.{In-Ok}

small : (c : In-Ok) → c.in-Ok.n ≤ 696
small c = count_small _ _ _ _ _ (sym (lifted-one c.lift.result _ c.lift.ensures.value) ∙ c.in-Ok.is)

pub overflow_cast-n : goal.overflow_cast-n
overflow_cast-n c = record { sfits = omega (arith, small (goal.at.overflow_cast-n c).In-Ok) }

pub returns-in-Ok-clause-out_after : goal.returns-in-Ok-clause-out_after
returns-in-Ok-clause-out_after c =
    let out = c.args.out.now in
    c.give.ensures.out_after
    ∙ ap (λ (z : ℤ). held (numbers (z ∷ [])) out) (as-pos _ (omega (arith, small (goal.at.returns-in-Ok-clause-out_after c).In-Ok)))
    ∙ ap (λ (a : Answer ℤ). held a out) (sym (ap count_answer c.in-Ok.is) ∙ c.lift.ensures.value)
