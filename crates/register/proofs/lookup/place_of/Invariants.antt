-- `register::lookup::place_of` meets its contract. The invariant: none of the entries passed has the customer and key. Assumes
-- nothing.
use Rattle.register.proofs.Places.{Missed}
use Rattle.register.proofs.lookup.place_of.Given as goal

abbrev pub invariant-loop-i : goal.invariant-loop-i
invariant-loop-i l = Missed l.register l.e l.i
