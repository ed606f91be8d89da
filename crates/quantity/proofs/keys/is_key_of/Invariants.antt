-- `quantity::keys::is_key_of` meets its contract. The invariant: the whole is of a key's bytes exactly if what is left is. Assumes
-- nothing.
use mathlib.Core.Path.{◌≡◌}
use lib.ListN.{drop}
use Rattle.quantity.specs.Keys.{all_key}
use Rattle.quantity.proofs.keys.is_key_of.Given as goal

abbrev pub invariant-loop-b : goal.invariant-loop-b
invariant-loop-b l = all_key l.key ≡ all_key (drop l.b-index l.key)
