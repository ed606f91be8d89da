-- `request::bands::band_at` meets its contract: the short way reads what stands there, or is not gone. Assumes nothing.
use Rattle.std.proofs.Common.{◌∙◌}
use Rattle.quantity.proofs.Rim.{back}
use Rattle.request.proofs.Readers.{band-short}
use Rattle.request.proofs.bands.band_at.Goals as goal

pub returns : goal.returns
returns c =
    let l = c.less in
    band-short c.args.s.now c.args.at c.in-Some.figure _ c.in-Some.ensures (back l.result l.type_inv ∙ l.ensures)
