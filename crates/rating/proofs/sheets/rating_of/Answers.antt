-- `rating::sheets::rating_of` meets its contract: the position found by the levels of the set is the rating's. Assumes nothing.
use Rattle.kinds.proofs.Facts.{entries_fit}
use Rattle.rating.specs.Found.{Sought}
use Rattle.rating.proofs.Sheeted.{Fetched, lent-by, low, sought-by, bounds, rating-made}
use Rattle.rating.proofs.sheets.rating_of.Goals as goal
use Rattle.rating.proofs.sheets.rating_of.Goals.{After-numbers_of-n, After-sought-accepted}

fetched : (c : After-numbers_of-n) → Fetched c.args.kind c.args.set c.numbers_of-n.result
fetched c = record { acc = c.requires; numbers = c.numbers_of-n.ensures }

pub sought-accepted-requires : goal.sought-accepted-requires
sought-accepted-requires c =
    let f = fetched (goal.at.sought-accepted-requires c).After-numbers_of-n in
    let l = lent-by f c.by_curve-by_curve.ensures in
    record { bands_of_kind = l.count; each_small = low f l (entries_fit c.args.kind) }

-- what the search found of the set
found : (c : After-sought-accepted) → Fetched c.args.kind c.args.set c.numbers_of-n.result
    → Sought c.args.kind c.args.set c.sought-accepted.result.at.0 c.sought-accepted.result.shifts
found c f = sought-by f (lent-by f c.by_curve-by_curve.ensures) c.sought-accepted.ensures

pub rating_at-requires : goal.rating_at-requires
rating_at-requires c =
    let w = goal.at.rating_at-requires c in
    let f = fetched w.After-numbers_of-n in bounds f (found w.After-sought-accepted f)

pub returns : goal.returns
returns c =
    let w = goal.at.returns c in
    let f = fetched w.After-numbers_of-n in rating-made f (found w.After-sought-accepted f) c.rating_at.ensures
