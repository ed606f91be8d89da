-- `answer::texts::put_key` meets its contract: each turn puts a byte of the key behind those before it. Assumes nothing.
use mathlib.Core.Path.{sym}
use native.Mathlib.Omega.{arith}
use lib.ListN.{drop, length-drop}
use lib.Seq.{get_or-drop}
use Rattle.laws.proofs.Fronts.{next-written}
use Rattle.answer.proofs.texts.put_key.Goals as goal

pub loop-i-preserved : goal.loop-i-preserved
loop-i-preserved c =
    let l = c.loop-i in
    let a = c.args in
    let r = c.requires in
    let h = c.loop-i-test.true in
    next-written (drop a.key a.s.now) a.out.now l.out l.i _ 0 (omega (arith, h, r.len_in_bounds, length-drop a.key a.s.now)) (omega (arith, h, r.out_in_bounds))
    (sym (get_or-drop a.key a.s.now l.i 0)) l.invariant
