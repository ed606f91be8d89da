-- `line::blocks::turns` meets its contract. The loop's invariant: what was answered so far, and what the rest of the part gives,
-- are the block (`Going`). Assumes nothing.
use Prim.Native.Nat.{◌-◌}
use lib.ListN.{length}
use Rattle.line.proofs.Runs.{Going}
use Rattle.line.proofs.blocks.turns.Given as goal

abbrev pub invariant-loop-done : goal.invariant-loop-done
invariant-loop-done l = Going l.input l.initial.out l.fn.skipping l.last l.done l.out

abbrev pub decreases-loop-done : goal.decreases-loop-done
decreases-loop-done l = length l.input - l.done.used
