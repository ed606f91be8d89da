-- `energy::energies::energy` meets its contract: above the table it is 0. Assumes nothing.
use Rattle.energy.proofs.Scaled.{F-above}
use Rattle.energy.proofs.energies.energy.Goals as goal

pub returns-then-d-gt900 : goal.returns-then-d-gt900
returns-then-d-gt900 c = F-above c.args.d c.if-d-gt900.true
