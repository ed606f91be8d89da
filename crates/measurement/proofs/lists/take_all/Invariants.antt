-- `measurement::lists::take_all` meets its contract. The invariant: the readings so far were taken, their values and marks are
-- those of the definition. Assumes nothing.
use mathlib.Core.Path.{◌≡◌}
use Rattle.std.specs.Prelude.{None}
use Rattle.measurement.specs.Lists.{refusal_in, values_in, marks_in}
use Rattle.measurement.proofs.lists.take_all.Given as goal

abbrev pub invariant-loop-i : goal.invariant-loop-i
invariant-loop-i l = record {
  accepted : refusal_in l.readings l.i ≡ None;
  held : l.values ≡ values_in l.readings l.i 48;
  marked : l.marks ≡ marks_in l.readings l.i;
}
