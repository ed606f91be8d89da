-- `reply::requests::reply_at` meets its contract: where a kind stands, the byte behind it has a position. Assumes nothing.
use Rattle.std.proofs.Common.{sym, arith}
use Rattle.reply.proofs.Replies.{kind-inside}
use Rattle.reply.proofs.requests.reply_at.Goals as goal

pub overflow_add-at : goal.overflow_add-at
overflow_add-at c = omega (arith, kind-inside c.args.s.now c.args.at c.in_ok-kind.kind (sym c.in_ok-kind.ensures))
