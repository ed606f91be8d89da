-- `request::bands::bands_at` meets its contract. The loop's invariant: the bands read so far, with those that the rest of the
-- line gives, are the bands of the line. The measure is what is left of the line. Assumes nothing.
use Prim.Native.Nat.{◌-◌}
use lib.ListN.{length}
use Rattle.request.proofs.Gathers.{Gathering}
use Rattle.request.proofs.bands.bands_at.Given as goal

abbrev pub invariant-loop-at : goal.invariant-loop-at
invariant-loop-at l = Gathering l.s l.start l.values l.marks l.weight l.count l.fault l.at

abbrev pub decreases-loop-at : goal.decreases-loop-at
decreases-loop-at l = length l.s - l.at
