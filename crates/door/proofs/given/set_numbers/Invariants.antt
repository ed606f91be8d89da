-- `door::given::set_numbers` meets its contract. The invariant: the numbers so far are the set's. Assumes nothing.
use lib.IntN.{pos}
use Rattle.laws.proofs.Lists.{Agreed}
use Rattle.quantity.specs.Quantities.{band_of}
use Rattle.door.proofs.given.set_numbers.Given as goal

abbrev pub invariant-loop-i : goal.invariant-loop-i
invariant-loop-i l = Agreed (pos 0) (band_of l.set) 17 l.answer l.i
