-- `curve::levels::sum` meets its contract. The invariant: the sum of the bands passed. Assumes nothing.
use mathlib.Core.Path.{◌≡◌}
use Prim.Native.Nat.{◌*◌, ◌≤◌}
use Rattle.laws.specs.Sums.{sum_to}
use Rattle.curve.specs.Levels.{at}
use Rattle.curve.proofs.levels.sum.Given as goal

abbrev pub invariant-loop-level : goal.invariant-loop-level
invariant-loop-level l = (l.sum ≡ sum_to (at l.levels) l.level-index) × (l.sum ≤ 10000 * l.level-index)
