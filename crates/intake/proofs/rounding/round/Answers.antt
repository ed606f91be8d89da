-- `intake::rounding::round` meets its contract: a float that is a number is read back from its bits. Assumes nothing.
use mathlib.Core.Path.{◌∙◌, ap}
use lib.Ieee.{binary32}
use lib.Ieee.Bits.{of_bits-to_bits}
use Rattle.intake.specs.Nearest.{whole_of}
use Rattle.intake.proofs.rounding.round.Goals as goal

pub returns : goal.returns
returns c =
    let a = c.args in
    c.round_bits.ensures ∙ ap (whole_of a.scale) (of_bits-to_bits binary32 a.x (rw c.well_formed.0.1 tt))
