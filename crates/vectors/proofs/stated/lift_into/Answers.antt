-- `vectors::stated::lift_into` is safe: a count is small. Assumes nothing.
use Rattle.std.proofs.Common.{sym, arith}
use Rattle.lift.proofs.Answers.{count_small}
use Rattle.desk.proofs.Answers.{lifted-one}
use Rattle.vectors.proofs.stated.lift_into.Goals as goal

pub overflow_cast-result : goal.overflow_cast-result
overflow_cast-result c =
    record { sfits = omega (arith, count_small _ _ _ _ _ (sym (lifted-one _ _ c.in-Ok.ensures.value))) }
