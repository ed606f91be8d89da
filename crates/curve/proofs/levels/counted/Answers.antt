-- `curve::levels::counted` meets its contract: above the origin or below it, by the sign. Assumes nothing.
use mathlib.Core.Path.{◌≡◌}
use mir.Syntax.{w32}
use mir.Val.{to_z, of_z}
use Rattle.quantity.proofs.Rim.{back}
use Rattle.curve.proofs.Counted.{up_is, down_is}
use Rattle.curve.proofs.levels.counted.Goals as goal
use Rattle.curve.proofs.levels.counted.Goals.{Start}

-- the number as it is held
read : (s : Start) → to_z w32 (of_z w32 s.args.z) ≡ s.args.z
read s = back _ s.ranges.z.sfits

pub returns-then-airborne : goal.returns-then-airborne
returns-then-airborne c = up_is _ _ _ _ c.if-airborne.true c.requires (rw (read (goal.at.returns-then-airborne c).Start) at c.above.ensures)

pub returns-else-airborne : goal.returns-else-airborne
returns-else-airborne c = down_is _ _ _ _ c.if-airborne.false c.requires (rw (read (goal.at.returns-else-airborne c).Start) at c.below.ensures)
