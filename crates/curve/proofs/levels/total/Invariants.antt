-- `curve::levels::total` meets its contract. The invariant: the total of the bands passed, at the position of the height.
-- Assumes nothing.
use mathlib.Core.Path.{◌≡◌}
use Prim.Native.Nat.{◌*◌, ◌≤◌}
use Rattle.curve.specs.Levels.{at, total_at}
use Rattle.curve.proofs.levels.total.Given as goal

abbrev pub invariant-loop-level : goal.invariant-loop-level
invariant-loop-level l = (l.total ≡ total_at (at l.levels) l.level-index l.fn.p.0) × (l.total ≤ 5000 * l.level-index)
