-- `energy::lent::mean_tables` meets its contract: the tables are those that are asked for. Assumes nothing.
use Rattle.energy.proofs.Lists.{energies, means, ends, turns}
use Rattle.energy.proofs.Turns.{mean-laid-is}
use Rattle.energy.proofs.lent.mean_tables.Goals as goal

pub returns : goal.returns
unfolding energies means ends turns
returns c = mean-laid-is
