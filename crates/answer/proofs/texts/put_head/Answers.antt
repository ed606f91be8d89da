-- `answer::texts::put_head` meets its contract: the two letters and the tab, and the key in the tail behind them. Assumes nothing.
use Rattle.std.proofs.Common.{[], ◌∷◌, ◌++◌, take, drop, refl, sym, ap, ◌∙◌, arith}
use Rattle.answer.specs.Texts.{tab}
use Rattle.laws.specs.Lists.{front}
use Rattle.laws.proofs.Fronts.{tail-home}
use Rattle.answer.proofs.Writers.{stored3}
use Rattle.answer.proofs.texts.put_head.Goals as goal

pub returns : goal.returns
returns c =
    let a = c.args in
    let l = c.letters_of-l.result in
    let key = take a.len (drop a.key a.s.now) in
    tail-home (l.0 ∷ l.1 ∷ tab ∷ []) a.out.now 3 (stored3 a.out.now l.0 l.1 tab (omega arith)) refl (omega arith) key c.put_key.ensures
    ∙ ap (λ k. front (k ++ (tab ∷ key)) a.out.now) (sym c.letters_of-l.ensures)
