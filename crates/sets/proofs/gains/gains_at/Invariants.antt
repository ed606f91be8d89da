-- `sets::gains::gains_at` meets its contract. The invariant: the gains of the bands passed, 0 from there on, and the total of
-- their deficits. No value lacks less than a lifted one, so no difference is below 0. Assumes nothing.
use mathlib.Core.Path.{◌≡◌}
use Prim.Native.Nat.{ℕ, ◌*◌, ◌≤◌, ◌<◌}
use lib.ListN.{length, get_or}
use Rattle.curve.specs.Levels.{level_at, total_at}
use Rattle.sets.specs.Gains.{gain_at}
use Rattle.sets.proofs.gains.gains_at.Given as goal

abbrev pub invariant-loop-i : goal.invariant-loop-i
invariant-loop-i l = record {
  whole : length l.each ≡ 16;
  gained : (j : ℕ) → j < l.i → get_or l.each j 0 ≡ gain_at l.airborne l.set l.entries l.fn.p.0 j;
  rest : (j : ℕ) → l.i ≤ j → get_or l.each j 0 ≡ 0;
  summed : l.total ≡ total_at (level_at l.airborne l.set l.entries) l.i l.fn.p.0;
  small : l.total ≤ 5000 * l.i;
}
