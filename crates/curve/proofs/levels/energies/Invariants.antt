-- `curve::levels::energies` meets its contract. The invariant: the sum of the energies of the bands passed. Assumes nothing.
use mathlib.Core.Path.{◌≡◌}
use Prim.Native.Nat.{◌*◌, ◌≤◌}
use Rattle.curve.specs.Levels.{at, energies_of}
use Rattle.curve.proofs.levels.energies.Given as goal

abbrev pub invariant-loop-level : goal.invariant-loop-level
invariant-loop-level g l = (l.sum ≡ energies_of (at l.levels) l.level-index l.m) × (l.sum ≤ 4294967296 * l.level-index)
