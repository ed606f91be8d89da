-- `lift::lists::list` meets its contract: the position of a better target can be counted, the total there is over the limit,
-- and the list by gains is the list by ratings. Assumes nothing.
use mathlib.Core.Path.{◌≡◌, ◌∙◌, ap}
use mathlib.Core.Bool.{Bool}
use mathlib.Core.List.{List}
use Prim.Native.Nat.{ℕ, ◌-◌}
use native.Mathlib.Nat.{le_of_lt}
use native.Mathlib.Omega.{arith}
use lib.ListN.{length, take}
use lib.Seq.{get_or-take, length-take-le}
use Rattle.std.proofs.lemmas.List.{length-take, get_or_past}
use Rattle.laws.specs.Lists.{front}
use Rattle.quantity.specs.Quantities.{band_of}
use Rattle.quantity.specs.declared.quantities.BandSet.{BandSet}
use Rattle.curve.specs.Levels.{at, level_by}
use Rattle.kinds.specs.Kinds.{airborne, bands_of}
use Rattle.kinds.specs.Numbers.{entries_of, numbers_of, rating_at}
use Rattle.kinds.proofs.Facts.{bands_most, entries_fit}
use Rattle.sets.specs.Gains.{by_gains, Gained}
use Rattle.lift.specs.Reach.{lift_list}
use Rattle.lift.proofs.Listing.{can-count, position-small, above-limit, need-small, gains-small, list-is, list-room}
use Rattle.lift.proofs.lists.list.Goals as goal
use Rattle.lift.proofs.lists.list.Goals.{After-gains_at-gains}

pub position_at-p-requires : goal.position_at-p-requires
unfolding numbers_of
position_at-p-requires c =
    let p = c.requires in rw c.numbers_of-n.ensures (can-count _ _ p.set_accepted _ p.target_in_range p.better)

pub gains_at-gains-requires : goal.gains_at-gains-requires
unfolding numbers_of
gains_at-gains-requires c =
    let p = c.requires in
    let e = c.numbers_of-n.ensures in record {
      bands_bound = rw e (bands_most c.args.kind);
      set_accepted = rw e p.set_accepted;
      each_entry = rw e (entries_fit c.args.kind);
      p_bound = rw (c.position_at-p.ensures, e) (position-small _ _ p.set_accepted _ p.target_in_range p.better);
    }

-- the gains of the bands, and none past them
taken : (sign : Bool) (s : BandSet) (entries : List ℕ) (n p : ℕ) (gains : List ℕ) (sum : ℕ)
    → Gained sign s entries n p gains sum → Gained sign s entries n p (take n gains) sum
taken sign s entries n p gains sum w = record {
  each = λ i h. get_or-take n gains i 0 h ∙ w.each i h;
  rest = λ i h. get_or_past (take n gains) i 0 (omega (arith, length-take n gains));
  all = w.all;
}

-- the gains lent are those of the kind, at the position that rates the target
gained : (c : After-gains_at-gains)
    → let k = c.args.kind in let r = c.gains_at-gains.result in
    Gained (airborne k) c.args.set (entries_of k) (bands_of k) (level_by (airborne k) c.args.target.0 (rating_at k)) (take (bands_of k) r.each) r.total
unfolding numbers_of
gained c = taken _ _ _ _ _ _ _ (rw (c.position_at-p.ensures, c.numbers_of-n.ensures) at c.gains_at-gains.ensures)

-- the gains lent are as many as the bands
as_many : (c : After-gains_at-gains) → let n = c.numbers_of-n.result.bands in length (take n c.gains_at-gains.result.each) ≡ n
unfolding numbers_of
as_many c =
    let r = c.gains_at-gains in
    rw c.numbers_of-n.ensures (length-take-le (bands_of c.args.kind) r.result.each (omega (arith, bands_most c.args.kind, r.type_inv)))

-- the list by them is the list by ratings
listed : (c : After-gains_at-gains)
    → let n = c.numbers_of-n.result in let r = c.gains_at-gains.result in let lent = take n.bands r.each in
    by_gains (at lent) (r.total - n.limit) (length lent) ≡ lift_list c.args.kind (band_of c.args.set) c.args.target.0
unfolding numbers_of
listed c =
    let p = c.requires in rw (as_many c, c.numbers_of-n.ensures) (list-is _ _ p.set_accepted _ p.target_in_range p.better _ _ (gained c))

pub overflow_sub-gains : goal.overflow_sub-gains
unfolding numbers_of
overflow_sub-gains c =
    let p = c.requires in
    let g = gained (goal.at.overflow_sub-gains c).After-gains_at-gains in
    rw c.numbers_of-n.ensures (le_of_lt (above-limit _ _ p.set_accepted _ p.target_in_range p.better _ _ g))

pub fill-requires : goal.fill-requires
unfolding numbers_of
fill-requires c =
    let p = c.requires in
    let w = (goal.at.fill-requires c).After-gains_at-gains in
    let e = c.numbers_of-n.ensures in record {
      bounded = record {
        bands = rw (as_many w, e) (bands_most c.args.kind);
        needed = rw e (need-small _ _ p.set_accepted _ p.target_in_range p.better _ _ (gained w));
        small = rw e (gains-small _ _ p.set_accepted _ p.target_in_range p.better _ _ (gained w));
      };
      room = rw (listed w) (list-room _ _ _ _ p.room);
    }

pub returns : goal.returns
returns c =
    let e = listed (goal.at.returns c).After-gains_at-gains in record {
      value = c.fill.ensures.value ∙ ap length e;
      out_after = c.fill.ensures.out_after ∙ ap (λ (l : List ℕ). front l c.args.out.now) e;
    }
