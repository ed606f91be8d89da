-- `curve::levels::least` meets its contract. The invariant: the least of the bands passed. Assumes nothing.
use mathlib.Core.Path.{◌≡◌}
use Prim.Native.Nat.{◌-◌}
use Rattle.curve.specs.Levels.{at, min_to}
use Rattle.curve.proofs.levels.least.Given as goal

abbrev pub invariant-loop-level : goal.invariant-loop-level
invariant-loop-level l = l.least ≡ min_to (at l.levels) (l.level-index - 1)
