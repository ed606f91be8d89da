-- `line::blocks::feed_after` meets its contract. The loop's invariant: the line feed looked for from the start is the one looked
-- for from `i`. Assumes nothing.
use mathlib.Core.Path.{◌≡◌}
use Rattle.line.specs.Blocks.{feed_after}
use Rattle.line.proofs.blocks.feed_after.Given as goal

abbrev pub invariant-loop-i : goal.invariant-loop-i
invariant-loop-i l = feed_after l.s l.at ≡ feed_after l.s l.i
