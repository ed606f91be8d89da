-- `curve::levels::all_in_range` meets its contract. The invariant: the answer so far is that of the bands passed. Assumes
-- nothing.
use mathlib.Core.Path.{◌≡◌}
use Rattle.curve.specs.Bands.{accepted}
use Rattle.curve.proofs.levels.all_in_range.Given as goal

abbrev pub invariant-loop-value : goal.invariant-loop-value
invariant-loop-value l = l.all ≡ accepted l.fn.set l.value-index
