-- `door::lists::set_from` meets its contract. The invariant: the values so far are those of the array. Assumes nothing.
use Prim.Native.Nat.{◌-◌}
use lib.IntN.{pos}
use Rattle.laws.proofs.Lists.{Agreed}
use Rattle.door.specs.Lists.{tenths_at}
use Rattle.door.proofs.lists.set_from.Given as goal

abbrev pub invariant-loop-i : goal.invariant-loop-i
invariant-loop-i l = Agreed (record { 0 = pos 0 }) (tenths_at l.values) 16 l.tenths l.i

abbrev pub decreases-loop-i : goal.decreases-loop-i
decreases-loop-i l = 16 - l.i
