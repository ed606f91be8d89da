-- Document 01, "Background and reverberation": what becomes of a reverberation time.
use Rattle.std.specs.Prelude.{Bool, cond, ◌&&◌, ℤ, pos, Float, Result, Ok, Err}
use Rattle.std.specs.Int.Signed.{le_z}
use Rattle.std.specs.Float.{nan, inf, fin}
use Rattle.laws.specs.Parts.{P}
use Rattle.quantity.specs.declared.quantities.Hundredths.{Hundredths}
use Rattle.quantity.specs.declared.refusals.Refusal.{Refusal}
use Rattle.quantity.specs.declared.refusals.Refusal.TheVariants.{NotFinite, TimeRange}
use Rattle.intake.specs.Nearest.{nearest}

-- "in 10..2000"
unfoldable pub in_time : ℤ → Bool
in_time t = le_z (pos 10) t && le_z t (pos 2000)

abbrev pub timed : ℤ → Result Hundredths Refusal
timed t = cond (in_time t) (Ok (record { 0 = P t })) (Err TimeRange)

-- "The time becomes the nearest hundredth, a tie upward, in 10..2000."
unfoldable pub time_of : Float → Result Hundredths Refusal
time_of nan = Err NotFinite
time_of (inf s) = Err NotFinite
time_of (fin s m e) = timed (nearest 100 s m e)
