-- `desk::ratings::rate_readings` meets its contract: intake for the kind's count, then the rating. Assumes nothing.
use mathlib.Core.Path.{sym, ap}
use Rattle.std.proofs.lemmas.Result.{err_from_is_err_and}
use Rattle.rating.specs.Sheets.{rated_answer}
use Rattle.desk.proofs.Joined.{readings-refused, readings-rated}
use Rattle.desk.proofs.ratings.rate_readings.Goals as goal

pub returns-in_err-taken : goal.returns-in_err-taken
returns-in_err-taken c =
    let p = err_from_is_err_and c.from_residual.result c.from_residual.ensures.1 in
    rw (p.1, p.2) (ap rated_answer (readings-refused _ _ _ _ _ c.bands_of.ensures (sym c.in_err-taken.ensures)))

pub returns : goal.returns
returns c = ap rated_answer (readings-rated _ _ _ _ _ _ c.bands_of.ensures (sym c.in_ok-taken.ensures) c.rate.ensures)
