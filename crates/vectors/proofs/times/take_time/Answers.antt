-- `vectors::times::take_time` is safe: a time that is taken is at most 2000 hundredths. Assumes nothing.
use Rattle.std.proofs.Common.{sym, arith}
use Rattle.intake.proofs.Meaning.{time-range}
use Rattle.vectors.proofs.times.take_time.Goals as goal

pub overflow_cast-out : goal.overflow_cast-out
overflow_cast-out c = record { sfits = omega (arith, time-range _ _ (sym c.in-Ok.ensures)) }
