-- `curve::levels::settle` meets its contract. The invariant: position and shifts make up the start, and every position left was
-- over the limit. The measure is the position; at 0 nothing is missing. Assumes nothing.
use Rattle.curve.specs.Levels.{at}
use Rattle.curve.proofs.Walks.{above_zero}
use Rattle.curve.proofs.levels.settle.Goals as goal

pub eased-p-requires : goal.eased-p-requires
eased-p-requires c = above_zero (at c.args.levels.now) _ _ _ _ c.total.ensures c.loop-p-test.true
