-- `curve::levels::settle` meets its contract. The invariant: position and shifts make up the start, and every position left was
-- over the limit. The measure is the position; at 0 nothing is missing. Assumes nothing.
use mathlib.Core.Path.{◌≡◌}
use Prim.Native.Nat.{ℕ, ◌+◌, ◌-◌, ◌<◌}
use lib.ListN.{length}
use Rattle.curve.specs.Levels.{at, total_at}
use Rattle.curve.proofs.levels.settle.Given as goal

abbrev pub invariant-loop-p : goal.invariant-loop-p
invariant-loop-p l = (l.p.0 + l.shifts ≡ l.initial.p.0) × ((s : ℕ) → s < l.shifts → l.limit < total_at (at l.levels) (length l.levels) (l.initial.p.0 - s))

abbrev pub decreases-loop-p : goal.decreases-loop-p
decreases-loop-p l = l.p.0
