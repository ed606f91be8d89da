-- `energy::lent::tables_of_many` meets its contract. The invariant: the numbers so far are those of F. Assumes nothing.
use Rattle.laws.proofs.Lists.{Agreed}
use Rattle.energy.specs.Energies.{F}
use Rattle.energy.proofs.lent.tables_of_many.Given as goal

abbrev pub invariant-loop-i : goal.invariant-loop-i
invariant-loop-i l = Agreed 0 F 1118 l.out l.i
