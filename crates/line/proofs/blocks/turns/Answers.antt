-- `line::blocks::turns` meets its contract. The loop's invariant: what was answered so far, and what the rest of the part gives,
-- are the block (`Going`). Assumes nothing.
use Rattle.std.proofs.Common.{arith}
use Rattle.line.proofs.Runs.{going_start, going-out, going-still, going_on, turn-ahead}
use Rattle.line.proofs.blocks.turns.Goals as goal

pub loop-done-init : goal.loop-done-init
loop-done-init c = going_start c.args.input.now c.args.out.now c.args.skipping c.args.last

pub loop-done-smaller : goal.loop-done-smaller
loop-done-smaller c = omega (arith, turn-ahead c.loop-done.invariant c.turn_at-next.ensures c.if-next-done.false)

pub loop-done-preserved : goal.loop-done-preserved
loop-done-preserved c = going_on c.loop-done.invariant c.turn_at-next.ensures c.loop-done-test.true c.if-next-done.false

pub returns-after-loop-done : goal.returns-after-loop-done
returns-after-loop-done c = going-out c.loop-done.invariant c.loop-done-test.false

pub returns-then-next-done : goal.returns-then-next-done
returns-then-next-done c = going-still c.loop-done.invariant c.turn_at-next.ensures c.if-next-done.true
