-- `rate::answer` meets its contract: the block call's promise, with the bytes that it used passed over. Assumes nothing.
use Rattle.std.proofs.Common.{refl, arith, length}
use Rattle.rate.specs.Waits.{block_at}
use Rattle.rate.proofs.Moves.{waiting-length, left_over, text-front}
use Rattle.rate.proofs.answer.Goals as goal

pub returns : goal.returns
returns c =
    let st = c.args.state in
    let buf = c.args.buf.now in
    let done = c.answer_block-done in
    let e = done.ensures in
    record {
      within = record {
        order = omega (arith, c.requires.order, e.within, waiting-length st buf c.requires);
        within = c.requires.within;
      };
      left = record {
        waits = left_over st buf c.requires done.result.used (block_at st buf (length c.args.out.now)).used e.within e.used;
        skipping = e.skipping;
        last = refl;
      };
      used = e.used;
      text = text-front e;
      fits = omega (arith, e.fits, done.auto.out);
    }
