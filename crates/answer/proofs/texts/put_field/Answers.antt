-- `answer::texts::put_field` meets its contract: a single byte is written behind the tab, where there is room for it. Assumes nothing.
use Rattle.std.proofs.Common.{length, length-set, ap, ◌∙◌, arith}
use Rattle.answer.specs.Texts.{tabbed, field_texts}
use Rattle.answer.proofs.Fields.{sign-tabbed}
use Rattle.answer.proofs.texts.put_field.Goals as goal

pub bounds-out-1 : goal.bounds-out-1
bounds-out-1 c = simp length-set (omega (arith, ap (λ f. length (tabbed (field_texts f))) c.in-Sign.is ∙ ap length (sign-tabbed c.in-Sign.b)))
