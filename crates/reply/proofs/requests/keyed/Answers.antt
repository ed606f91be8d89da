-- `reply::requests::keyed` meets its contract: bands that give no refusal can be rated, and what they rate stands in the reply.
-- Assumes nothing.
use Rattle.std.proofs.Common.{◌+◌, arith}
use Rattle.request.specs.Reading.{bands_at}
use Rattle.reply.proofs.Replies.{bands-read, clean_of}
use Rattle.reply.proofs.requests.keyed.Goals as goal

pub judge-requires : goal.judge-requires
judge-requires c =
    let a = c.args in
    record { clean = clean_of a.kind (bands_at a.s.now (a.at + 3 + c.key_span-len.result)) c.in_ok-bands.bands c.in_ok-bands.ensures }

pub returns : goal.returns
returns c =
    let a = c.args in
    let k = c.key_span-len in
    let b = c.in_ok-bands in
    bands-read a.s.now a.at a.kind k.result k.ensures (omega arith) (omega arith) b.bands b.ensures (omega arith) (omega arith)
    c.judge.result c.judge.ensures
