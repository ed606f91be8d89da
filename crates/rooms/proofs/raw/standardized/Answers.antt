-- `rooms::raw::standardized` meets its contract: what was taken of its floats is in range. Assumes nothing.
use mathlib.Core.Path.{◌≡◌, sym}
use mathlib.Core.Bool.{true, false}
use lib.Ieee.{Float}
use Rattle.quantity.specs.Quantities.{in_range}
use Rattle.quantity.specs.declared.quantities.Reading.TheVariants.{Level}
use Rattle.intake.specs.Taken.{float_taken, taken_of}
use Rattle.intake.specs.declared.singles.Taken.{Taken}
use Rattle.intake.proofs.Meaning.{taken-range, time-range}
use Rattle.std.specs.Prelude.{Ok}
use Rattle.rooms.proofs.raw.standardized.Goals as goal

float-range : (x : Float) (y : Taken) → Ok y ≡ float_taken false x → in_range y.value.0 ≡ true
unfolding taken_of
float-range x y e = taken-range (Level x) y (sym e)

pub differed-requires : goal.differed-requires
differed-requires c = record {
  levels_ranged = (float-range _ _ c.in_ok-source.ensures, float-range _ _ c.in_ok-receiving.ensures, float-range _ _ c.in_ok-background.ensures);
  time_bound = time-range _ _ (sym c.in_ok-time.ensures);
}
