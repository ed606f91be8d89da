-- What the definitions mean, in document 01's words: the two background rules part at d = 60. Assumes nothing.
use mathlib.Core.Path.{◌≡◌, ap}
use mathlib.Core.Bool.{Bool, true, false}
use lib.IntN.{ℤ, pos}
use Rattle.quantity.specs.Quantities.{in_range}
use Rattle.rooms.specs.Background.{above, field_level, field_mark, field_of, laboratory_level, laboratory_of}
use Rattle.laws.proofs.Tests.{clash}
use Rattle.std.specs.Prelude.{Result, Ok, Err}
use Rattle.quantity.specs.declared.refusals.Refusal.{Refusal}
use Rattle.intake.specs.declared.singles.Taken.{Taken}

marked : Result Taken Refusal → Bool
marked (Ok x) = x.limit
marked (Err r) = false

-- ---- "Treating d = 60 alike under both background rules" is a slip: by the field rule the level is a limit, by the
-- laboratory rule it is none
pub rules-part : (total background : ℤ) → in_range total ≡ true → in_range background ≡ true → above total background ≡ pos 60
    → field_of total background ≡ laboratory_of total background → ⊥
unfolding marked field_of field_level field_mark laboratory_of laboratory_level
rules-part total background p q d e = clash (cc (rw (p, q, d) at (ap marked e)))
