-- `door::given::give` meets its contract. The invariant: the numbers so far stand at the front. Assumes nothing.
use mathlib.Core.Path.{◌≡◌}
use lib.ListN.{take}
use Rattle.laws.specs.Lists.{front}
use Rattle.door.proofs.given.give.Given as goal

abbrev pub invariant-loop-i : goal.invariant-loop-i
invariant-loop-i g l = l.out ≡ front (take l.i l.answer) l.initial.out
