-- `door::lists::readings_from` meets its contract. The invariant: the readings so far are those of the arrays. Assumes
-- nothing.
use native.Mathlib.Omega.{arith}
use lib.Ieee.{nan}
use Rattle.laws.proofs.Lists.{agreed-all}
use Rattle.quantity.specs.declared.quantities.Reading.TheVariants.{Level}
use Rattle.door.specs.Lists.{readings_from}
use Rattle.door.proofs.lists.readings_from.Goals as goal

pub returns : goal.returns
unfolding readings_from
returns c = agreed-all (Level nan) _ 48 c.loop-i.readings c.loop-i.i (omega arith) c.loop-i.invariant
