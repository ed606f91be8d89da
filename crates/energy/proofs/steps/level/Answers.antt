-- `energy::steps::level` meets its contract: u is the start of its stretch, and as many more as of the next three
-- thresholds are not missed. Assumes nothing.
use mathlib.Core.Path.{◌≡◌, ◌∙◌, ap, ap₂}
use Prim.Native.Nat.{ℕ, ◌+◌, ◌-◌}
use native.Mathlib.Omega.{arith}
use lib.ListN.{get_or}
use Rattle.energy.specs.Tabled.{reach, start_in, missed_at}
use Rattle.energy.proofs.Counted.{counted}
use Rattle.energy.proofs.steps.level.Goals as goal
use Rattle.energy.proofs.steps.level.Goals.{After-stretch, After-missed_of_three}

below-is : (c : After-stretch) → let a = c.args in
    get_or a.cells.now (c.behind-at.result + 123 + c.stretch.result) 0 ≡ start_in a.many a.cells.now a.s
below-is c = ap₂ (λ (a b : ℕ). get_or c.args.cells.now (a + 123 + b) 0) c.behind-at.ensures c.stretch.ensures

-- where the thresholds behind it do
next-is : (c : After-stretch) → let a = c.args in
    c.behind-at.result + get_or a.cells.now (c.behind-at.result + 123 + c.stretch.result) 0 ≡ reach a.many + start_in a.many a.cells.now a.s
next-is c = ap₂ ◌+◌ c.behind-at.ensures (below-is c)

-- the thresholds that are missed are those behind the start
three : (c : After-missed_of_three) {i : ℕ} → c.behind-at.result + get_or c.args.cells.now (c.behind-at.result + 123 + c.stretch.result) 0 ≡ i
    → let a = c.args in
    c.missed_of_three.result ≡ missed_at a.s a.cells.now i + missed_at a.s a.cells.now (i + 1) + missed_at a.s a.cells.now (i + 2)
three c e =
    let a = c.args in
    c.missed_of_three.ensures
    ∙ ap (λ (i : ℕ). missed_at a.s a.cells.now i + missed_at a.s a.cells.now (i + 1) + missed_at a.s a.cells.now (i + 2)) e

pub overflow_sub-result : goal.overflow_sub-result
overflow_sub-result c =
    let w = (goal.at.overflow_sub-result c).After-stretch in
    omega (arith, three c (next-is w), below-is w, (counted c.requires.stepped c.args.s c.requires.summed).0)

pub returns : goal.returns
returns c =
    let w = (goal.at.returns c).After-stretch in
    ap₂ (λ (a b : ℕ). a + 3 - b) (below-is w) (three c (next-is w)) ∙ (counted c.requires.stepped c.args.s c.requires.summed).1
