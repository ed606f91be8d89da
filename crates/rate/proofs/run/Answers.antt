-- `rate::run` meets its contract: a step more for each turn, and at the end all that was read is answered. Assumes nothing.
use Rattle.std.proofs.Common.{◌≡◌, ℕ, List, Result, Ok, Err, subst, arith, length}
use Rattle.std.specs.Result.{IsErr}
use Rattle.rate.specs.declared.State.{State}
use Rattle.rate.specs.declared.Unfinished.{Unfinished}
use Rattle.rate.specs.Waits.{Advanced, Steps, most_turns, Ran}
use Rattle.rate.specs.Waits.Ran.{ended, broken, used_up}
use Rattle.rate.proofs.Streams.{begins, one_step, finished}
use Rattle.rate.proofs.run.Goals as goal

pub loop-turn-init : goal.loop-turn-init
loop-turn-init g c =
    let a = c.args in
    record {
      waits = record { order = omega arith; within = omega arith };
      carried = begins (length a.out.now) a.buf.now (g.R.Read.remaining a.input.now) (g.W.Write.contents a.output.now);
    }

pub loop-turn-preserved : goal.loop-turn-preserved
loop-turn-preserved g c =
    let a = c.args in
    let l = c.loop-turn in
    let n = c.advance.new in
    let e = c.in_ok-next.ensures in
    record {
      waits = rw (c.in-Some.is, l.auto.buf) at e.waits;
      carried = one_step (length a.out.now) a.buf.now (g.R.Read.remaining a.input.now) (g.W.Write.contents a.output.now) (g.R.Read.remaining l.input)
          (g.W.Write.contents l.output) (g.R.Read.remaining n.input) (g.W.Write.contents n.output) l.invariant.carried (rw l.auto.out at e.handed)
          (rw (c.in-Some.is, l.auto.out) at e.advanced) (rw (c.in-Some.is, l.auto.out) at e.took);
    }

-- a step that failed ends the run with a failure, and so does the last turn of all
failed : {room n : ℕ} {buf before after : List ℕ} {s : State} {why : Unfinished} (r : Result Unit Unfinished) → IsErr r → Steps room buf n s before
    → Advanced s before room (Err why) after → Ran room buf r after
failed (Ok u) h steps a = cc
failed (Err told) h steps a = broken steps a

spent : {room n : ℕ} {buf after : List ℕ} {s : State} (told : Unfinished) → n ≡ most_turns → Steps room buf n s after → Ran room buf (Err told) after
spent {room} {buf = buf} {after = after} {s = s} told e steps = used_up (subst (λ (k : ℕ). Steps room buf k s after) e steps)

pub returns-in_err-next-clause-ran : goal.returns-in_err-next-clause-ran
returns-in_err-next-clause-ran g c =
    let l = c.loop-turn in
    failed c.from_residual.result c.from_residual.ensures.0 l.invariant.carried.0 (rw l.auto.out at c.in_err-next.ensures.advanced)

pub returns-in_default-clause-ran : goal.returns-in_default-clause-ran
returns-in_default-clause-ran g c =
    let l = c.loop-turn in
    ended l.invariant.carried.0 (rw (c.in_default.is, l.auto.out) at c.in_ok-next.ensures.advanced)

pub returns-in_default-clause-answered : goal.returns-in_default-clause-answered
returns-in_default-clause-answered g c =
    let a = c.args in
    let l = c.loop-turn in
    let n = c.advance.new in
    let e = c.in_ok-next.ensures in
    finished (length a.out.now) a.buf.now (g.R.Read.remaining a.input.now) (g.W.Write.contents a.output.now) (g.R.Read.remaining l.input)
    (g.W.Write.contents l.output) (g.R.Read.remaining n.input) (g.W.Write.contents n.output) l.invariant.carried (rw l.auto.out at e.handed)
    (rw (c.in_default.is, l.auto.out) at e.advanced) (rw (c.in_default.is, l.auto.out) at e.took)

pub returns-clause-ran : goal.returns-clause-ran
returns-clause-ran g c = spent _ (omega arith) c.loop-turn.invariant.carried.0
