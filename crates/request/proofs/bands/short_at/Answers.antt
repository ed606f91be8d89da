-- `request::bands::short_at` meets its contract: one or two digits before the point, or nothing is said. Assumes nothing.
use Rattle.std.proofs.Common.{◌+◌, ◌*◌, sym, ◌∙◌, arith}
use Rattle.request.proofs.Readers.{short-one, short-two}
use Rattle.request.proofs.bands.short_at.Goals as goal

pub returns-then-ones-eq46 : goal.returns-then-ones-eq46
returns-then-ones-eq46 c =
    let r = c.tenth_of in
    short-one c.args.s.now c.args.at r.result (sym c.is_digit.ensures ∙ c.if-not-is_digit.false) c.from.result c.from.ensures c.if-ones-eq46.true r.ensures

pub returns : goal.returns
returns c =
    let r = c.tenth_of-2 in
    short-two c.args.s.now c.args.at r.result (sym c.is_digit.ensures ∙ c.if-not-is_digit.false) (10 * c.from-2.result + c.from-3.result) (omega arith)
    c.if-ones-eq46.false c.if-tens-eq48.false (sym c.is_digit-else-tens-eq48.ensures ∙ c.if-not-is_digit-2.false) c.if-s-at-ne46.false r.ensures
