-- `line::blocks::turn_at` meets its contract: the key of what was read at the position stands within the part. Assumes nothing.
use Rattle.reply.proofs.Replies.{reply_keyed}
use Rattle.line.proofs.blocks.turn_at.Goals as goal

pub answer_at-requires : goal.answer_at-requires
answer_at-requires c = rw c.reply_at-reply.ensures (reply_keyed c.args.s.now _)
