-- `rating::sheets::weigh` meets its contract: the least is below every level. Assumes nothing.
use native.Mathlib.Omega.{arith}
use lib.ListN.{length}
use Rattle.curve.specs.Levels.{at}
use Rattle.curve.proofs.Searched.{least-below}
use Rattle.rating.proofs.sheets.weigh.Goals as goal

pub energies-sum-requires-clause-least : goal.energies-sum-requires-clause-least
energies-sum-requires-clause-least c =
    λ i h. omega (arith, c.least-least.ensures, least-below (at c.args.levels.now) (length c.args.levels.now) i h)
