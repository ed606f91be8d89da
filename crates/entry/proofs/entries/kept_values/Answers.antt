-- `entry::entries::kept_values` meets its contract: the first n values, and zeros after them. Assumes nothing.
use Prim.Native.Nat.{◌≤◌}
use native.Mathlib.Omega.{arith}
use lib.ListN.{take, length}
use lib.Seq.{length-take-le}
use Rattle.entry.proofs.Kept.{kept, first_or}
use Rattle.entry.specs.Entries.{kept_value}
use Rattle.quantity.specs.Quantities.{nought}
use Rattle.entry.proofs.entries.kept_values.Goals as goal

pub returns : goal.returns
returns c =
    let s = c.args.set in
    let n = c.args.n in
    let fits : n ≤ length s.values = omega arith in
    rw c.copy_from_slice.ensures.after
    (kept nought (kept_value s n) 16 n (take n s.values) (length-take-le n s.values fits) c.requires (λ j h. first_or nought s.values n j fits))
