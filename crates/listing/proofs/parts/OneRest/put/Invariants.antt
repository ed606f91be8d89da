-- `listing::parts::OneRest::put` meets its contract. The invariant: of the listed sets, those with a last band below band i are
-- written. Assumes nothing.
use mathlib.Core.List.{List}
use Prim.Native.Nat.{ℕ}
use lib.ListN.{length}
use Rattle.laws.proofs.Fronts.{Writing}
use Rattle.curve.specs.Levels.{at}
use Rattle.sets.specs.Gains.{joined_by}
use Rattle.listing.proofs.parts.OneRest.put.Given as goal

abbrev pub invariant-loop-i : goal.invariant-loop-i
invariant-loop-i l =
    let from : ℕ → List ℕ = joined_by (at l.gains) l.need (length l.gains) 1 l.part.mask in
    Writing (from l.part.from) (from l.i) l.initial.out l.count l.out
