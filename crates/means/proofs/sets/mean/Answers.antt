-- `means::sets::mean` meets its contract: the three values and their mean are counted from one floor. Assumes nothing.
use mathlib.Core.Path.{◌∙◌, ap}
use native.Mathlib.Omega.{arith}
use Prim.Native.Nat.{ℕ}
use lib.IntN.{pos, ◌-ℤ◌}
use Rattle.quantity.proofs.Rim.{back}
use Rattle.quantity.proofs.Counts.{Band, band-asks, band-gives}
use Rattle.means.proofs.Averages.{mean-is, mean-counts}
use Rattle.means.proofs.sets.mean.Goals as goal
use Rattle.means.proofs.sets.mean.Goals.{After-above-3}

pub above-requires : goal.above-requires
above-requires c = band-asks _ 200 c.requires.0 (omega arith) (omega arith)

pub above-requires-2 : goal.above-requires-2
above-requires-2 c = band-asks _ 200 c.requires.1 (omega arith) (omega arith)

pub above-requires-3 : goal.above-requires-3
above-requires-3 c = band-asks _ 200 c.requires.2 (omega arith) (omega arith)

counted : (c : After-above-3) → let a = c.args in
    Band 200 a.x.0 c.above.result × Band 200 a.y.0 c.above-2.result × Band 200 a.z.0 c.above-3.result
counted c = (
  band-gives _ 200 _ c.requires.0 (omega arith) (omega arith) c.above.ensures,
  band-gives _ 200 _ c.requires.1 (omega arith) (omega arith) c.above-2.ensures,
  band-gives _ 200 _ c.requires.2 (omega arith) (omega arith) c.above-3.ensures,
)

pub mean_of_three-counted-requires : goal.mean_of_three-counted-requires
mean_of_three-counted-requires c = let w = counted c in omega (arith, w.0.most, w.1.most, w.2.most)

pub less-requires : goal.less-requires
less-requires c =
    let w = counted (goal.at.less-requires c).After-above-3 in
    omega (arith, c.mean_of_three-counted.ensures, mean-counts _ _ _ w.0.most w.1.most w.2.most)

pub returns : goal.returns
returns c =
    let a = c.args in
    let w = counted (goal.at.returns c).After-above-3 in
    back c.less.result c.less.type_inv
    ∙ c.less.ensures
    ∙ ap (λ (n : ℕ). pos n -ℤ pos 200) c.mean_of_three-counted.ensures
    ∙ mean-is 200 a.x.0 a.y.0 a.z.0 _ _ _ (record { first = w.0.up; second = w.1.up; third = w.2.up })
