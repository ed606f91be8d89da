-- `curve::levels::levels` meets its contract. The invariant: the levels of the bands passed. Assumes nothing.
use mathlib.Core.Path.{◌≡◌}
use Prim.Native.Nat.{ℕ, ◌<◌}
use lib.ListN.{length, get_or}
use Rattle.curve.specs.Levels.{level_by, plain_at}
use Rattle.curve.proofs.levels.levels.Given as goal

abbrev pub invariant-loop-i : goal.invariant-loop-i
invariant-loop-i l = (length l.out ≡ 16) × ((j : ℕ) → j < l.i → get_or l.out j 0 ≡ level_by l.airborne (plain_at l.values j) (get_or l.entries j 0))
