-- `door::lists::readings_from` meets its contract. The invariant: the readings so far are those of the arrays. Assumes
-- nothing.
use Prim.Native.Nat.{◌-◌}
use lib.Ieee.{nan}
use Rattle.laws.proofs.Lists.{Agreed}
use Rattle.quantity.specs.declared.quantities.Reading.TheVariants.{Level}
use Rattle.door.specs.Lists.{reading_at}
use Rattle.door.proofs.lists.readings_from.Given as goal

abbrev pub invariant-loop-i : goal.invariant-loop-i
invariant-loop-i l = Agreed (Level nan) (reading_at l.marks l.values) 48 l.readings l.i

abbrev pub decreases-loop-i : goal.decreases-loop-i
decreases-loop-i l = 48 - l.i
