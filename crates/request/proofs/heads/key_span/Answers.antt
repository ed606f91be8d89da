-- `request::heads::key_span` meets its contract: the bytes in front that may stand in a key are counted. Assumes nothing.
use Rattle.std.proofs.Common.{◌-◌, length, take, drop, ◌∙◌, rules, tests}
use Rattle.std.proofs.lemmas.Iterator.{YieldsList-from_slice}
use Rattle.std.proofs.lemmas.Iterator.Search.{YieldsList-from_take_while}
use Rattle.std.proofs.lemmas.Iterator.Consumers.{count_from_yields_List}
use Rattle.quantity.specs.Keys.{key_byte}
use Rattle.request.proofs.Readers.{span_taken}
use Rattle.request.proofs.heads.key_span.Goals as goal

pub returns : goal.returns
returns c =
    let l = take (length c.args.s.now - c.args.at) (drop c.args.at c.args.s.now) in
    let w = c.take_while in
    count_from_yields_List w.result c.count.result c.count.ensures.ran
    (YieldsList-from_take_while _ key_byte (YieldsList-from_slice l cc) w.ensures.closure w.ensures.done (λ x b q k. search (rules, tests)))
    ∙ span_taken c.args.s.now c.args.at
