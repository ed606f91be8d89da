-- `door::given::set_numbers` meets its contract. Assumes nothing.
use mathlib.Core.Path.{◌∙◌, ap}
use mathlib.Core.List.{[], ◌∷◌, ◌++◌}
use native.Mathlib.Omega.{arith}
use lib.IntN.{ℤ, pos}
use Rattle.laws.specs.Lists.{listed}
use Rattle.laws.proofs.Lists.{agreed-then}
use Rattle.quantity.specs.Quantities.{band_of}
use Rattle.quantity.proofs.Rim.{back}
use Rattle.measurement.specs.Lists.{set_numbers}
use Rattle.door.proofs.given.set_numbers.Goals as goal

pub returns-clause-numbers : goal.returns-clause-numbers
unfolding set_numbers
returns-clause-numbers c =
    let l = c.loop-i in
    agreed-then (pos 0) (band_of c.args.set) 17 l.answer c.args.n l.i _ (omega (arith, c.requires)) (omega arith) (omega arith) l.invariant
    ∙ ap (λ (z : ℤ). listed (band_of c.args.set) c.args.n 0 ++ (z ∷ [])) (back c.from.result c.from.type_inv ∙ c.from.ensures)
