-- `register::lookup::place_of` meets its contract. The invariant: none of the entries passed has the customer and key. Assumes
-- nothing.
use mathlib.Core.Path.{sym, ◌∙◌}
use native.Mathlib.Omega.{arith}
use Rattle.entry.proofs.Keys.{word-apart}
use Rattle.register.proofs.Places.{missed-none, missed_more}
use Rattle.register.proofs.lookup.place_of.Goals as goal
use Rattle.register.proofs.lookup.place_of.Goals.{else-words-i-via-then-words-i+else-same_key, else-words-i-via-else-words-i}

pub loop-i-init : goal.loop-i-init
loop-i-init c = missed-none c.args.register.now c.args.e

pub loop-i-preserved : goal.loop-i-preserved
loop-i-preserved c =
    let q = c.requires in
    missed_more c.args.register.now c.args.e c.loop-i.i c.loop-i.invariant (
    elim c.else-words-i.branch [
      | else-words-i-via-then-words-i+else-same_key w ↦ sym w.same_key.ensures ∙ w.if-same_key.false
      | else-words-i-via-else-words-i w ↦ word-apart _ _ (λ s. w.if-words-i.false (q.words_of _ (omega arith) ∙ s ∙ sym q.n_bound.2))
    ])
