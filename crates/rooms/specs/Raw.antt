-- Document 01, "Background and reverberation": a raw band, and its standardized difference.
use Rattle.std.specs.Prelude.{Bool, false, cond, ℤ, ◌+ℤ◌, ◌-ℤ◌, Result, Ok, Err}
use Rattle.quantity.specs.Quantities.{in_range}
use Rattle.quantity.specs.declared.quantities.Tenths.{Tenths}
use Rattle.quantity.specs.declared.quantities.Hundredths.{Hundredths}
use Rattle.quantity.specs.declared.refusals.Refusal.{Refusal}
use Rattle.quantity.specs.declared.refusals.Refusal.TheVariants.{DerivedRange}
use Rattle.energy.specs.Corrections.{k}
use Rattle.intake.specs.declared.singles.Taken.{Taken}
use Rattle.intake.specs.Taken.{taken, float_taken}
use Rattle.intake.specs.Times.{time_of}
use Rattle.rooms.specs.declared.raw.RawBand.{RawBand}
use Rattle.rooms.specs.Background.{field_level, field_mark}

-- "source less field-corrected receiving level plus k"
abbrev pub difference : ℤ → ℤ → ℤ → ℤ → ℤ
difference source receiving background plus = source -ℤ field_level receiving background +ℤ plus

-- "then 6"
abbrev pub derived : ℤ → Bool → Result Taken Refusal
derived z mark = cond (in_range z) (Ok (taken z mark)) (Err DerivedRange)

-- the four floats, each tested in order; the first refusal is the one given
abbrev pub after_time : Result Hundredths Refusal → Tenths → Tenths → Tenths → Result Taken Refusal
after_time (Ok t) source receiving background =
    derived (difference source.0 receiving.0 background.0 (k t.0)) (field_mark receiving.0 background.0)
after_time (Err r) source receiving background = Err r

abbrev pub after_background : Result Taken Refusal → RawBand → Tenths → Tenths → Result Taken Refusal
after_background (Ok background) raw source receiving = after_time (time_of raw.time) source receiving background.value
after_background (Err r) raw source receiving = Err r

abbrev pub after_receiving : Result Taken Refusal → RawBand → Tenths → Result Taken Refusal
after_receiving (Ok receiving) raw source = after_background (float_taken false raw.background) raw source receiving.value
after_receiving (Err r) raw source = Err r

abbrev pub after_source : Result Taken Refusal → RawBand → Result Taken Refusal
after_source (Ok source) raw = after_receiving (float_taken false raw.receiving) raw source.value
after_source (Err r) raw = Err r

unfoldable pub raw_of : RawBand → Result Taken Refusal
raw_of raw = after_source (float_taken false raw.source) raw
