-- `door::given::give` meets its contract: each turn puts a number behind those before it. Assumes nothing.
use native.Mathlib.Omega.{arith}
use Rattle.laws.proofs.Fronts.{next-written}
use Rattle.door.proofs.given.give.Goals as goal

pub loop-i-preserved : goal.loop-i-preserved
loop-i-preserved g c =
    let l = c.loop-i in
    let v = c.index-answer-i.result in
    let h = c.loop-i-test.true in
    next-written c.args.answer.now c.args.out.now l.out l.i v v h (omega (arith, h, c.if-out-answer.false)) c.index-answer-i.is l.invariant
