-- `products::covers::derived` meets its contract: the floor and the improvement are small. Assumes nothing.
use native.Mathlib.Omega.{arith}
use Rattle.products.specs.Covers.{floor}
use Rattle.products.proofs.Improvements.{derived_fits, derived_is}
use Rattle.products.proofs.covers.derived.Goals as goal

pub overflow_sub-result : goal.overflow_sub-result
unfolding floor
overflow_sub-result c = derived_fits c.args.i c.args.improvement.0 (omega arith) c.requires.ranged

pub returns : goal.returns
unfolding floor
returns c = derived_is c.args.i c.args.improvement.0 (omega arith) c.requires.ranged
