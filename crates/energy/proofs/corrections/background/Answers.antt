-- `energy::corrections::background` meets its contract: the table's rule at each entry. Assumes nothing.
use mathlib.Core.Path.{◌∙◌, ap}
use Prim.Native.Nat.{◌-◌, ◌+◌}
use native.Mathlib.Omega.{arith}
use mathlib.Core.Path.{◌≡◌}
use Rattle.energy.specs.Corrections.{c as c-of}
use Rattle.energy.proofs.Amounts.{background-is}
use Rattle.energy.proofs.Lists.{backgrounds}
use Rattle.energy.proofs.corrections.background.Goals as goal

pub returns : goal.returns
unfolding backgrounds
returns c =
    let e : 60 + (c.args.d - 60) ≡ c.args.d = omega arith in
    c.from.ensures ∙ background-is (c.args.d - 60) (omega arith) ∙ ap c-of e
