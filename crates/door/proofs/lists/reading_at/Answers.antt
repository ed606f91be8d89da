-- `door::lists::reading_at` meets its contract. Assumes nothing.
use native.Mathlib.Omega.{arith}
use borrow.Author.Tests.{lt-ltb, le-ltb}
use lib.ListN.{length}
use Rattle.door.specs.Lists.{reading_at}
use Rattle.door.proofs.lists.reading_at.Goals as goal
use Rattle.door.proofs.lists.reading_at.Goals.{else-i-marks-via-then-i-marks+else-i-values, else-i-marks-via-else-i-marks}

pub returns-then-i-values : goal.returns-then-i-values
unfolding reading_at
returns-then-i-values c =
    let a = c.args in
    rw (lt-ltb a.i (length a.marks.now) (omega arith), lt-ltb a.i (length a.values.now) (omega arith)) cc

pub returns-else-i-marks : goal.returns-else-i-marks
unfolding reading_at
returns-else-i-marks c =
    let a = c.args in
    elim c.else-i-marks.branch [
      | else-i-marks-via-then-i-marks+else-i-values w ↦
          rw (lt-ltb a.i (length a.marks.now) (omega arith), le-ltb a.i (length a.values.now) (omega arith))
      | else-i-marks-via-else-i-marks w ↦ rw (le-ltb a.i (length a.marks.now) (omega arith))
    ]
