-- `rating::sheets::sought` meets its contract: the sum is that of the levels, and small, so the start is theirs and small, too.
-- Assumes nothing.
use mathlib.Core.Path.{subst}
use Prim.Native.Nat.{ℕ, ◌*◌, ◌≤◌}
use native.Mathlib.Omega.{arith}
use lib.ListN.{length}
use Rattle.laws.proofs.Sums.{sum_bound}
use Rattle.curve.specs.Levels.{at}
use Rattle.curve.proofs.Searched.{count_most, start_small}
use Rattle.kinds.specs.Kinds.{bands_of}
use Rattle.kinds.specs.Numbers.{start_add}
use Rattle.kinds.proofs.Facts.{count-of, add_small}
use Rattle.rating.proofs.sheets.sought.Goals as goal
use Rattle.rating.proofs.sheets.sought.Goals.{Start, After-sum}

most : (s : Start) → length s.args.levels.now ≤ 16
most s = rw s.requires.bands_of_kind (count_most (count-of s.args.kind))

-- the sum stays small
small : (c : After-sum) → c.sum.result ≤ bands_of c.args.kind * 4500
small c =
    subst (λ (n : ℕ). c.sum.result ≤ n * 4500) c.requires.bands_of_kind
    (omega (arith, c.sum.ensures, sum_bound (at c.args.levels.now) 4500 (length c.args.levels.now) c.requires.each_small))

pub start_of-start-requires : goal.start_of-start-requires
start_of-start-requires c = omega (arith, small c, count_most (count-of c.args.kind))

pub settle-requires : goal.settle-requires
settle-requires c =
    let k = c.args.kind in
    record { bands_bound = most (goal.at.settle-requires c).Start; start_bound = rw c.start_of-start.ensures (start_small (bands_of k) _ (start_add k) (count-of k) (small (goal.at.settle-requires c).After-sum) (add_small k)) }
