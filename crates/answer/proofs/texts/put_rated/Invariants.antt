-- `answer::texts::put_rated` meets its contract. The invariant: the fields so far stand at the front, each behind its tab.
-- Assumes nothing.
use mathlib.Core.Path.{◌≡◌}
use lib.ListN.{length}
use Rattle.laws.specs.Lists.{front}
use Rattle.answer.proofs.Fields.{done}
use Rattle.answer.proofs.texts.put_rated.Given as goal

abbrev pub invariant-loop-field : goal.invariant-loop-field
invariant-loop-field l = record {
  counted : l.at ≡ length (done l.field-items l.field-index);
  written : l.out ≡ front (done l.field-items l.field-index) l.initial.out;
}
