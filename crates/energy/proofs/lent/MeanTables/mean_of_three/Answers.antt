-- `energy::lent::MeanTables::mean_of_three` meets its contract: the sum of three energies has its step, and the least has the
-- whole energy. Assumes nothing.
use mathlib.Core.Path.{◌≡◌, ◌∙◌, ap, ap₂}
use Prim.Native.Nat.{◌+◌}
use native.Mathlib.Omega.{arith}
use Rattle.energy.specs.Means.{v, sum₃, least₃, mean₃}
use Rattle.energy.proofs.Threes.{sum-bounds, v-most}
use Rattle.energy.proofs.lent.MeanTables.mean_of_three.Goals as goal
use Rattle.energy.proofs.lent.MeanTables.mean_of_three.Goals.{After-from-3}

least : (c : After-from-3) → let a = c.args in c.min-m.result ≡ least₃ a.x a.y a.z
least c = omega arith

added : (c : After-from-3) → let a = c.args in c.from.result + c.from-2.result + c.from-3.result ≡ sum₃ a.x a.y a.z
added c = let l = least c in cc

pub step_of_sum-requires : goal.step_of_sum-requires
step_of_sum-requires c = rw (added c) (sum-bounds _ _ _)

pub overflow_add-result : goal.overflow_add-result
overflow_add-result c =
    let a = c.args in
    let b = sum-bounds a.x a.y a.z in
    omega (arith, v-most (sum₃ a.x a.y a.z) b.0 b.1, c.step_of_sum.ensures ∙ ap v (added (goal.at.overflow_add-result c).After-from-3))

pub returns : goal.returns
unfolding mean₃
returns c = let w = (goal.at.returns c).After-from-3 in ap₂ ◌+◌ (least w) (c.step_of_sum.ensures ∙ ap v (added w))
