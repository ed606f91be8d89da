-- `listing::parts::ThenRest::put` meets its contract: the sets that start with band i are the next piece of the list. Assumes
-- nothing.
use mathlib.Core.List.{List}
use Prim.Native.Nat.{ℕ, ◌+◌}
use native.Mathlib.Omega.{arith}
use lib.ListN.{length}
use Rattle.laws.proofs.Fronts.{Turn, turn, ended}
use Rattle.curve.specs.Levels.{at}
use Rattle.sets.specs.Gains.{joined_by}
use Rattle.sets.proofs.Joining.{below-band, sum-small, joined_end}
use Rattle.listing.proofs.Joined.{longer-part, longer-piece}
use Rattle.listing.proofs.parts.ThenRest.put.Goals as goal
use Rattle.listing.proofs.parts.ThenRest.put.Goals.{After-joined-longer}

pub joined-longer-requires-clause-mask_bound : goal.joined-longer-requires-clause-mask_bound
joined-longer-requires-clause-mask_bound g c =
    let p = c.requires in (below-band _ _ _ _ _ p.part_of _ c.loop-i.auto.i, sum-small _ _ _ _ _ p.part_of p.bounded.small)

-- with the band joined the part is a longer one
pub put-count-requires-clause-part_of : goal.put-count-requires-clause-part_of
put-count-requires-clause-part_of g c =
    let e = c.joined-longer.ensures in
    let b = c.requires.bounded.bands in
    longer-part _ _ _ _ _ e.mask_and_sum.0 e.least_and_from.1 _ _ _ _ _ c.requires.part_of c.loop-i.auto.i (omega arith)
    e.mask_and_sum.1 e.least_and_from.0

-- the listed sets of the part and its bands to come, from band i on, and those that start with band i
abbrev from : (g : _) → After-joined-longer g → ℕ → List ℕ
from g c = let a = c.args in joined_by (at a.gains.now) a.need (length a.gains.now) (g.R.Rest.more + 1) a.part.mask

abbrev piece : (g : _) → After-joined-longer g → List ℕ
piece g c =
    let a = c.args in
    let r = c.joined-longer.result in joined_by (at a.gains.now) a.need (length a.gains.now) g.R.Rest.more r.mask r.from

turned : (g : _) (c : After-joined-longer g)
    → let l = c.loop-i in Turn (from g c c.args.part.from) (piece g c) (from g c (l.i + 1)) c.args.out.now l.count l.out
turned g c =
    let e = c.joined-longer.ensures in
    turn _ _ _ _ _ c.requires.room c.loop-i.invariant (piece g c) (from g c (c.loop-i.i + 1))
    (longer-piece _ _ _ _ _ e.mask_and_sum.0 e.least_and_from.1 _ _ _ c.loop-i-test.true)

pub put-count-requires-clause-room : goal.put-count-requires-clause-room
put-count-requires-clause-room g c = (turned g (goal.at.put-count-requires-clause-room g c).After-joined-longer).lent

pub loop-i-preserved : goal.loop-i-preserved
loop-i-preserved g c =
    let r = c.put-count in
    (turned g (goal.at.loop-i-preserved g c).After-joined-longer).written r.result _ r.ensures.value r.ensures.out_after

pub returns : goal.returns
returns g c =
    let a = ended _ _ _ _ _ c.requires.room c.loop-i.invariant (joined_end _ _ _ _ _ _ c.loop-i-test.false) in
    record { value = a.0; out_after = a.1 }
