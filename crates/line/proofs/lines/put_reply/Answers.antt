-- `line::lines::put_reply` meets its contract: behind the head that was written, the fields go into the tail. Assumes nothing.
use Rattle.std.proofs.Common.{◌+◌, sym, ap, ◌∙◌, arith}
use Rattle.answer.specs.Texts.{others, fields_of}
use Rattle.laws.specs.Lists.{front}
use Rattle.laws.proofs.Fronts.{tail-home}
use Rattle.reply.proofs.Replies.{reply-none, reply-some, head-length, reply-length}
use Rattle.line.proofs.lines.put_reply.Goals as goal

pub put_none-requires : goal.put_none-requires
put_none-requires c = omega (arith, reply-none c.args.s.now, rw c.in-None.is at c.requires.room)

pub returns-in-Some : goal.returns-in-Some
returns-in-Some c =
    let s = c.args.s.now in
    let l = c.args.out.now in
    let r = c.in-Some.reply in
    let k = rw c.in-Some.is at c.requires.keyed in
    let m = rw c.in-Some.is at c.requires.room in
    rw c.in-Some.is
    (tail-home _ l (3 + r.len) c.put_head.ensures (sym (head-length s r k)) (omega (arith, head-length s r k, reply-length s r k))
    (others (fields_of r.rated)) c.put_rated.ensures ∙ ap (λ t. front t l) (sym (reply-some s r)))
