-- `listing::parts::OneRest::put` meets its contract: at each turn the next piece of the list is the set with band i, or nothing.
-- Assumes nothing.
use mathlib.Core.Path.{◌≡◌, sym, ap}
use mathlib.Core.List.{List, [], ◌∷◌, ◌++◌}
use Prim.Native.Nat.{ℕ, ◌+◌, ◌-◌, ◌^◌, ◌≤◌, ◌<◌}
use native.Mathlib.Omega.{arith}
use lib.ListN.{length}
use Rattle.laws.specs.Lists.{front}
use Rattle.laws.proofs.Fronts.{one_written, Turn, turn, same-room, ended}
use Rattle.curve.specs.Levels.{at}
use Rattle.sets.specs.Gains.{joined_by}
use Rattle.sets.proofs.Joining.{Last, last-band, last_none, least-small, joined_end}
use Rattle.listing.proofs.Joined.{mask_is}
use Rattle.listing.proofs.parts.OneRest.put.Goals as goal
use Rattle.listing.proofs.parts.OneRest.put.Goals.{In-loop-i, then-left-gains+then-gains-i, else-left-gains, else-left-gains-via-then-left-gains+else-gains-i, else-left-gains-via-else-left-gains}

-- the listed sets with a last band from band i on
abbrev from : In-loop-i → ℕ → List ℕ
from c = let a = c.args in joined_by (at a.gains.now) a.need (length a.gains.now) 1 a.part.mask

abbrev word : In-loop-i → ℕ
word c = c.args.part.mask + 2 ^ c.loop-i.i

-- what band i is to the set
last : (c : In-loop-i) → let a = c.args in Last (at a.gains.now) a.need (length a.gains.now) a.part.mask a.part.sum a.part.least c.loop-i.i
last c = last-band _ _ _ _ _ _ _ c.requires.part_of c.requires.bounded.bands _ c.loop-i.auto.i c.loop-i-test.true c.if-need-part.false

-- the next piece of the list: the set with band i, or nothing
turned : (c : In-loop-i) (piece : List ℕ) → from c c.loop-i.i ≡ piece ++ from c (c.loop-i.i + 1)
    → Turn (from c c.args.part.from) piece (from c (c.loop-i.i + 1)) c.args.out.now c.loop-i.count c.loop-i.out
turned c piece = turn _ _ _ _ _ c.requires.room c.loop-i.invariant piece (from c (c.loop-i.i + 1))

-- nothing is listed where the part makes up what is needed
pub returns-then-need-part : goal.returns-then-need-part
returns-then-need-part c =
    let a = c.args in
    let e = sym (last_none (at a.gains.now) a.need (length a.gains.now) _ _ _ _ c.requires.part_of c.requires.bounded.bands c.if-need-part.true) in
    record { value = ap length e; out_after = ap (λ (l : List ℕ). front l a.out.now) e }

pub overflow_add-bound : goal.overflow_add-bound
overflow_add-bound c = omega (arith, c.requires.bounded.needed, least-small _ _ _ _ _ c.requires.part_of)

-- where the set with band i is listed
listed : (c : In-loop-i) → let a = c.args in let g = at a.gains.now c.loop-i.i in a.need - a.part.sum ≤ g → g < a.need - a.part.sum + a.part.least
    → Turn (from c c.args.part.from) (word c ∷ []) (from c (c.loop-i.i + 1)) c.args.out.now c.loop-i.count c.loop-i.out
listed c a b = turned c (word c ∷ []) ((last c).listed a b)

pub bounds-out-count : goal.bounds-out-count
bounds-out-count c =
    let t = listed (goal.at.bounds-out-count c).In-loop-i c.if-left-gains.true c.if-gains-i.true in
    omega (arith, same-room _ _ _ _ _ c.requires.room c.loop-i.invariant, t.room)

pub loop-i-preserved : goal.loop-i-preserved
loop-i-preserved c =
    let l = c.loop-i in
    let b = (goal.at.loop-i-preserved c).In-loop-i in
    elim c.if-left-gains.branch [
      | then-left-gains+then-gains-i w ↦
          rw (w.count-is, w.out-is, mask_is c.args.part.mask l.i (omega (arith, c.requires.bounded.bands)))
          (one_written _ _ _ (word b) l.count l.out c.requires.room (listed b w.if-left-gains.true w.if-gains-i.true).left)
      | else-left-gains w ↦
          rw (w.count-is, w.out-is)
          (elim w.else-left-gains.branch [
            | else-left-gains-via-then-left-gains+else-gains-i v ↦ (turned b [] ((last b).idle v.if-gains-i.false)).left
            | else-left-gains-via-else-left-gains v ↦ (turned b [] ((last b).short v.if-left-gains.false)).left
          ])
    ]

pub returns : goal.returns
returns c =
    let a = ended _ _ _ _ _ c.requires.room c.loop-i.invariant (joined_end _ _ _ 0 _ _ c.loop-i-test.false) in
    record { value = a.0; out_after = a.1 }
