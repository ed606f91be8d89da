-- `line::lines::line_reply` meets its contract: what was read from the start is the line's request only where it ends with the
-- line. Assumes nothing.
use Rattle.std.proofs.Common.{◌≡◌, length, rules, ap, ◌∙◌}
use Rattle.reply.specs.Answers.{reply_at, reply_text}
use Rattle.line.proofs.Placing.{ending, line-whole, line-keyed}
use Rattle.line.proofs.lines.line_reply.Goals as goal

pub returns : goal.returns
returns c =
    let line = c.args.line.now in
    let e : c.filter.result ≡ ending (length line) (reply_at line 0) = search rules in
    record { value = ap (reply_text line) e ∙ line-whole line; keyed = rw e (line-keyed line) }
