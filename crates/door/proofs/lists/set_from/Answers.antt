-- `door::lists::set_from` meets its contract. The invariant: the values so far are those of the array. Assumes nothing.
use Prim.Native.Nat.{◌%◌}
use mathlib.Core.Path.{ap}
use mathlib.Core.List.{List}
use native.Mathlib.Omega.{arith}
use lib.IntN.{pos}
use lib.ListN.{length}
use Rattle.laws.proofs.Lists.{agreed-all}
use Rattle.quantity.specs.declared.quantities.Tenths.{Tenths}
use Rattle.door.specs.Lists.{set_from}
use Rattle.door.proofs.lists.set_from.Goals as goal

pub returns : goal.returns
unfolding set_from
returns c =
    let a = c.args in
    ap (λ (v : List Tenths). record { values = v; marks = a.marks % 65536; len = length a.values.now })
    (agreed-all (record { 0 = pos 0 }) _ 16 c.loop-i.tenths c.loop-i.i (omega arith) c.loop-i.invariant)
