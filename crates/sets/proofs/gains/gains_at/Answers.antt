-- `sets::gains::gains_at` meets its contract: each gain put is the band's, and those past it stay 0. Assumes nothing.
use mathlib.Core.Path.{◌≡◌, refl, ◌∙◌}
use Prim.Native.Nat.{◌-◌}
use native.Mathlib.Omega.{arith}
use lib.ListN.{length-set}
use Rattle.curve.specs.Levels.{level_at}
use Rattle.curve.proofs.Walks.{put-more, total-none, total-more}
use Rattle.curve.proofs.Searched.{band-in}
use Rattle.sets.specs.Gains.{gain_at}
use Rattle.sets.proofs.Counting.{best-in, best-most, zeros, put_rest}
use Rattle.sets.proofs.gains.gains_at.Goals as goal

pub loop-i-init : goal.loop-i-init
loop-i-init c =
    let a = c.args in record {
      whole = refl;
      gained = λ j h. absurd (omega arith);
      rest = λ j h. zeros j;
      summed = total-none (level_at a.airborne a.set a.entries) a.p.0;
      small = omega arith;
    }

pub lacking-now-requires-clause-ranged : goal.lacking-now-requires-clause-ranged
lacking-now-requires-clause-ranged c = band-in c.args.set c.args.bands c.requires.set_accepted c.loop-i.i c.loop-i-test.true

pub lacking-lifted-requires-clause-ranged : goal.lacking-lifted-requires-clause-ranged
lacking-lifted-requires-clause-ranged c = rw c.best-highest.ensures (best-in c.args.airborne)

pub overflow_sub-each : goal.overflow_sub-each
overflow_sub-each c =
    let i = c.loop-i.i in
    let most =
    best-most _ _ _ (band-in c.args.set c.args.bands c.requires.set_accepted i c.loop-i-test.true) (c.requires.each_entry i (omega arith)) in
    rw (c.lacking-now.ensures, c.lacking-lifted.ensures, c.best-highest.ensures) (omega (arith, most))

pub loop-i-preserved : goal.loop-i-preserved
loop-i-preserved c =
    let l = c.loop-i in
    let a = c.args in
    let gain : c.lacking-now.result - c.lacking-lifted.result ≡ gain_at a.airborne a.set a.entries a.p.0 l.i = cc in record {
      whole = length-set l.each l.i _ ∙ l.invariant.whole;
      gained = put-more l.each l.i _ _ (omega arith) l.invariant.gained gain;
      rest = put_rest l.each l.i _ l.invariant.rest;
      summed = total-more (level_at a.airborne a.set a.entries) l.i a.p.0 l.total _ l.invariant.summed cc;
      small = omega (arith, c.lacking-now.ensures, c.tenths-height.ensures);
    }
