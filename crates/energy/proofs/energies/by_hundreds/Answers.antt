-- `energy::energies::by_hundreds` meets its contract: a number of the first hundred, divided down, and 0 above. Assumes nothing.
use mathlib.Core.Path.{◌≡◌, sym, ◌∙◌, ap}
use Prim.Native.Nat.{ℕ, ◌/◌, ◌%◌, ◌^◌}
use native.Mathlib.Omega.{arith}
use lib.ListN.{get_or}
use Rattle.energy.specs.Energies.{F}
use Rattle.energy.proofs.Scaled.{F-above, F-most, F-hundreds}
use Rattle.energy.proofs.energies.by_hundreds.Goals as goal
use Rattle.energy.proofs.energies.by_hundreds.Goals.{Else-d-gt900}

pub returns-then-d-gt900 : goal.returns-then-d-gt900
returns-then-d-gt900 c = F-above c.args.d c.if-d-gt900.true

first : (c : Else-d-gt900) → get_or c.args.cells.now (c.args.d % 100) 0 ≡ F (c.args.d % 100)
first c = c.requires.each (c.args.d % 100) (omega arith)

pub divided-requires : goal.divided-requires
divided-requires c = (omega (arith, first (goal.at.divided-requires c).Else-d-gt900, F-most (c.args.d % 100)), omega arith)

pub returns : goal.returns
returns c =
    let d : ℕ = c.args.d in
    c.divided.ensures
    ∙ ap (λ (n : ℕ). n / 10 ^ (d / 100)) (first (goal.at.returns c).Else-d-gt900)
    ∙ sym (F-hundreds (d / 100) (d % 100))
    ∙ ap F (omega arith)
