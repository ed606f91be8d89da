-- `products::covers::derived_set` meets its contract. The invariant: the derived levels so far. Assumes nothing.
use mathlib.Core.Path.{◌≡◌}
use Rattle.products.proofs.Improvements.{levels_to}
use Rattle.products.proofs.covers.derived_set.Given as goal

abbrev pub invariant-loop-i : goal.invariant-loop-i
invariant-loop-i l = l.values ≡ levels_to l.set l.i
