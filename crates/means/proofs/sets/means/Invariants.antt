-- `means::sets::means` meets its contract. The invariant: the means so far and their marks. Assumes nothing.
use mathlib.Core.Path.{◌≡◌}
use Rattle.means.specs.Sets.{placed, marks_to, mark_at}
use Rattle.means.proofs.Thirds.{means_to}
use Rattle.means.proofs.sets.means.Given as goal

abbrev pub invariant-loop-j : goal.invariant-loop-j
invariant-loop-j l = record {
  values : l.out ≡ means_to (placed l.values) l.step l.stride l.j;
  marked : l.limits ≡ marks_to (mark_at l.marks l.step l.stride) l.j;
}
