-- `listing::parts::fill` meets its contract: the listed sets of one band, of two and of three are the pieces of the list. Assumes
-- nothing.
use mathlib.Core.Path.{refl, sym, ap}
use mathlib.Core.List.{List, [], append-nil}
use Prim.Native.Nat.{ℕ, ◌≤◌}
use native.Mathlib.Omega.{arith}
use lib.ListN.{length, length-append}
use Rattle.laws.proofs.Fronts.{Writing, Turn, turn, ended}
use Rattle.curve.specs.Levels.{at}
use Rattle.sets.specs.Gains.{by_gains, joined_by}
use Rattle.sets.proofs.Joining.{no_part, by-size}
use Rattle.listing.proofs.parts.fill.Goals as goal
use Rattle.listing.proofs.parts.fill.Goals.{After-put-count}

pub put-count-requires : goal.put-count-requires
put-count-requires c =
    let e = ap length (by-size (at c.args.gains.now) c.args.need (length c.args.gains.now)) in record {
      part_of = no_part _;
      bounded = c.requires.bounded;
      room = omega (arith, c.requires.room, simp length-append at e);
    }

-- the pairs are written behind the single bands
pairs : (c : After-put-count)
    → let a = c.args in
    let sized : ℕ → List ℕ = λ more. joined_by (at a.gains.now) a.need (length a.gains.now) more 0 0 in
    Turn (by_gains (at a.gains.now) a.need (length a.gains.now)) (sized 2) (sized 3) a.out.now c.put-count.result c.put-count.new.out
pairs c =
    let a = c.args in
    let e = by-size (at a.gains.now) a.need (length a.gains.now) in
    let r = c.put-count.ensures in
    turn _ _ _ _ _ c.requires.room (record { done = _; parted = sym e; counted = r.value; written = r.out_after }) _ _ refl

-- what is still to come is the last piece
last : {whole piece l out : List ℕ} {count : ℕ} → length whole ≤ length l → Writing whole piece l count out → Turn whole piece [] l count out
last room w = turn _ _ _ _ _ room w _ [] (sym (append-nil _))

pub put-count-requires-2 : goal.put-count-requires-2
put-count-requires-2 c =
    let t = pairs (goal.at.put-count-requires-2 c).After-put-count in
    record { part_of = no_part _; bounded = c.requires.bounded; room = t.lent }

pub put-count-requires-3 : goal.put-count-requires-3
put-count-requires-3 c =
    let r = c.put-count-2 in
    let t = pairs (goal.at.put-count-requires-3 c).After-put-count in
    let u = last c.requires.room (t.written r.result _ r.ensures.value r.ensures.out_after) in
    record { part_of = no_part _; bounded = c.requires.bounded; room = u.lent }

pub returns : goal.returns
returns c =
    let r = c.put-count-2 in
    let s = c.put-count-3 in
    let t = pairs (goal.at.returns c).After-put-count in
    let u = last c.requires.room (t.written r.result _ r.ensures.value r.ensures.out_after) in
    let a = ended _ _ _ _ _ c.requires.room (u.written s.result _ s.ensures.value s.ensures.out_after) refl in
    record { value = a.0; out_after = a.1 }
