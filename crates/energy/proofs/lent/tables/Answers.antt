-- `energy::lent::tables` meets its contract: the tables are those that are asked for. Assumes nothing.
use Rattle.energy.proofs.Lists.{energies, levels, starts}
use Rattle.energy.proofs.Laid.{laid-is, lows}
use Rattle.energy.proofs.lent.tables.Goals as goal

pub returns : goal.returns
unfolding energies levels starts lows
returns c = laid-is
