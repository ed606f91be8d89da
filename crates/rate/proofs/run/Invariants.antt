-- `rate::run`'s loop: as many steps as turns are used up have led to this state and this buffer, and to what is left of the
-- input and stands in the output.
use Rattle.std.proofs.Common.{length}
use Rattle.rate.specs.Waits.{Waits}
use Rattle.rate.proofs.Streams.{Carried}
use Rattle.rate.proofs.run.Given as goal

abbrev pub invariant-loop-turn : goal.invariant-loop-turn
invariant-loop-turn g l = record {
  waits : Waits l.state (length l.fn.buf);
  carried : Carried (length l.fn.out) l.fn.buf (g.R.Read.remaining l.fn.input) (g.W.Write.contents l.fn.output)
      l._turn l.state l.buf (g.R.Read.remaining l.input) (g.W.Write.contents l.output);
}
