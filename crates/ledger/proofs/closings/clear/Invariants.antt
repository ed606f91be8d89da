-- `ledger::closings::clear` meets its contract. The invariant: the places passed were gone through, and the first that is free
-- comes after the others among them. Assumes nothing.
use mathlib.Core.Path.{◌≡◌}
use lib.ListN.{length}
use Rattle.ledger.specs.Closings.{others, moved_to}
use Rattle.ledger.proofs.closings.clear.Given as goal

abbrev pub invariant-loop-i : goal.invariant-loop-i
invariant-loop-i l = (l.free ≡ length (others l.customer l.fn.register l.i)) × (l.register.entries ≡ moved_to l.customer l.fn.register l.i)
