-- `quantity::keys::is_key_of` meets its contract. Assumes nothing.
use mathlib.Core.Path.{sym, ◌∙◌}
use native.Mathlib.Omega.{arith}
use Rattle.quantity.proofs.Shapes.{all_more, all-fails, all-ends, shape-by}
use Rattle.quantity.proofs.keys.is_key_of.Goals as goal

pub loop-b-preserved : goal.loop-b-preserved
loop-b-preserved c = c.loop-b.invariant ∙ all_more c.args.key.now c.loop-b.b-index (omega arith) (sym c.is_key.ensures ∙ c.if-not-is_key.false)

pub returns-then-not-is_key : goal.returns-then-not-is_key
returns-then-not-is_key c =
    sym (all-fails c.args.key.now c.loop-b.b-index (omega arith) (sym c.is_key.ensures ∙ c.if-not-is_key.true))
    ∙ sym c.loop-b.invariant ∙ shape-by c.args.key.now (omega arith) (omega arith)

pub returns : goal.returns
returns c =
    sym (all-ends c.args.key.now c.loop-b.b-index (omega arith)) ∙ sym c.loop-b.invariant ∙ shape-by c.args.key.now (omega arith) (omega arith)
