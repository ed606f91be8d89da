-- `ledger::closings::clear` meets its contract. The invariant: the places passed were gone through, and the first that is free
-- comes after the others among them. Assumes nothing.
use mathlib.Core.Path.{◌∙◌, ap}
use native.Mathlib.Omega.{arith}
use Rattle.register.specs.declared.registers.Register.{Register}
use Rattle.ledger.proofs.Moves.{moved-goes, moved-stays}
use Rattle.ledger.proofs.closings.clear.Goals as goal
use Rattle.ledger.proofs.closings.clear.Goals.{then-e-customer, else-e-customer}

pub loop-i-preserved : goal.loop-i-preserved
loop-i-preserved c =
    let a = c.args in
    let l = c.loop-i in
    let i = l.invariant in
    elim c.if-e-customer.branch [
      | then-e-customer w ↦
          let m = moved-stays a.customer a.register.now l.i (omega arith) l.free l.register.entries _ i.0 i.1 c.no_entry.ensures w.if-e-customer.true in
          (w.free-is ∙ m.0, ap (λ (r : Register). r.entries) w.register-is ∙ m.1)
      | else-e-customer w ↦
          let m = moved-goes a.customer a.register.now l.i (omega arith) l.free l.register.entries _ i.0 i.1 c.no_entry.ensures w.if-e-customer.false in
          (w.free-is ∙ m.0, ap (λ (r : Register). r.entries) w.register-is ∙ m.1)
    ]
