-- `answer::texts::put_key` meets its contract. The invariant: the bytes so far stand at the front. Assumes nothing.
use mathlib.Core.Path.{◌≡◌}
use lib.ListN.{take, drop}
use Rattle.laws.specs.Lists.{front}
use Rattle.answer.proofs.texts.put_key.Given as goal

abbrev pub invariant-loop-i : goal.invariant-loop-i
invariant-loop-i l = l.out ≡ front (take l.i (drop l.key l.s)) l.initial.out
