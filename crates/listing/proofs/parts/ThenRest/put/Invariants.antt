-- `listing::parts::ThenRest::put` meets its contract. The invariant: of the listed sets of the part and its bands to come, those
-- whose next band is below band i are written; the sets that start with band i are the piece that R writes to the tail. Assumes
-- nothing.
use mathlib.Core.List.{List}
use Prim.Native.Nat.{ℕ, ◌+◌}
use lib.ListN.{length}
use Rattle.laws.proofs.Fronts.{Writing}
use Rattle.curve.specs.Levels.{at}
use Rattle.sets.specs.Gains.{joined_by}
use Rattle.listing.proofs.parts.ThenRest.put.Given as goal

abbrev pub invariant-loop-i : goal.invariant-loop-i
invariant-loop-i g l =
    let from : ℕ → List ℕ = joined_by (at l.gains) l.need (length l.gains) (g.R.Rest.more + 1) l.part.mask in
    Writing (from l.part.from) (from l.i) l.initial.out l.count l.out
