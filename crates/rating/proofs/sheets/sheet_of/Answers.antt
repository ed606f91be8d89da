-- `rating::sheets::sheet_of` meets its contract: the levels found are those of the set, what is weighed of them is small, and
-- each number of the record is the defined one. Assumes nothing.
use mathlib.Core.Path.{ap}
use Rattle.kinds.proofs.Facts.{entries_fit, first-fit, second-fit}
use Rattle.rating.specs.Found.{Sought}
use Rattle.rating.proofs.Sheeted.{Fetched, lent-by, counted-bands, low, weighed, term-lent, sought-by, bounds, SecondAt, given, absent, sheet-made}
use Rattle.rating.proofs.sheets.sheet_of.Goals as goal
use Rattle.rating.proofs.sheets.sheet_of.Goals.{After-numbers_of-n, After-sought-accepted, After-marked, then-n, else-n}
use Rattle.std.specs.Prelude.{Ok}

fetched : (c : After-numbers_of-n) → Fetched c.args.kind c.args.set c.numbers_of-n.result
fetched c = record { acc = c.requires.set_accepted; numbers = c.numbers_of-n.ensures }

-- ---- the position
pub sought-accepted-requires : goal.sought-accepted-requires
sought-accepted-requires c =
    let f = fetched (goal.at.sought-accepted-requires c).After-numbers_of-n in
    let l = lent-by f c.by_curve-by_curve.ensures in
    record { bands_of_kind = l.count; each_small = low f l (entries_fit c.args.kind) }

sought : (c : After-sought-accepted) → Fetched c.args.kind c.args.set c.numbers_of-n.result
    → Sought c.args.kind c.args.set c.sought-accepted.result.at.0 c.sought-accepted.result.shifts
sought c f = sought-by f (lent-by f c.by_curve-by_curve.ensures) c.sought-accepted.ensures

pub rating_at-requires : goal.rating_at-requires
rating_at-requires c =
    let w = goal.at.rating_at-requires c in
    let f = fetched w.After-numbers_of-n in bounds f (sought w.After-sought-accepted f)

-- ---- the terms
pub weigh-one-requires : goal.weigh-one-requires
weigh-one-requires c =
    let f = fetched (goal.at.weigh-one-requires c).After-numbers_of-n in
    record { count = counted-bands f (lent-by f c.by_first-by_first.ensures) }

pub weigh-other-requires : goal.weigh-other-requires
weigh-other-requires c =
    let f = fetched (goal.at.weigh-other-requires c).After-numbers_of-n in
    record { count = counted-bands f (lent-by f c.by_second-by_second.ensures) }

pub term_of-requires : goal.term_of-requires
term_of-requires c =
    let w = goal.at.term_of-requires c in
    let f = fetched w.After-numbers_of-n in
    let other = weighed f (lent-by f c.by_second-by_second.ensures) (second-fit c.args.kind) c.weigh-other.ensures in
    let b = bounds f (sought w.After-sought-accepted f) in
    record { summed = other.0; bounds = (b.0, b.1, other.1) }

pub term_of-requires-2 : goal.term_of-requires-2
term_of-requires-2 c =
    let w = goal.at.term_of-requires-2 c in
    let f = fetched w.After-numbers_of-n in
    let one = weighed f (lent-by f c.by_first-by_first.ensures) (first-fit c.args.kind) c.weigh-one.ensures in
    let b = bounds f (sought w.After-sought-accepted f) in
    record { summed = one.0; bounds = (b.0, b.1, one.1) }

-- ---- the sheet is the defined one
second : (c : After-marked) → Fetched c.args.kind c.args.set c.numbers_of-n.result
    → SecondAt c.args.kind c.numbers_of-n.result c.args.set c.sought-accepted.result.at.0 c.if-n.second
second c f =
    elim c.if-n.branch [
      | then-n w ↦ rw w.second-is
          (given w.term_of.result w.if-n.true (term-lent f (lent-by f w.by_second-by_second.ensures) _ w.weigh-other.ensures w.term_of.ensures))
      | else-n w ↦ rw w.second-is (absent w.if-n.false)
    ]

pub returns : goal.returns
returns c =
    let w = goal.at.returns c in
    let f = fetched w.After-numbers_of-n in
    ap Ok
    (sheet-made f c.sought-accepted.result.at.0 _ (sought w.After-sought-accepted f) c.marked.ensures
    (record {
      rating = c.rating_at.ensures;
      first = term-lent f (lent-by f c.by_first-by_first.ensures) _ c.weigh-one.ensures c.term_of-2.ensures;
      second = second w.After-marked f;
    }))
