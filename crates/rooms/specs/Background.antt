-- Document 01, "Background and reverberation": the two correction rules, and each as a call of its own.
use Rattle.std.specs.Prelude.{Bool, false, cond, ℤ, pos, ◌-ℤ◌, Result, Ok, Err}
use Rattle.std.specs.Int.Signed.{le_z, lt_z}
use Rattle.laws.specs.Parts.{P}
use Rattle.quantity.specs.Quantities.{in_range}
use Rattle.quantity.specs.declared.refusals.Refusal.{Refusal}
use Rattle.quantity.specs.declared.refusals.Refusal.TheVariants.{BandRange, BackgroundTooNear}
use Rattle.energy.specs.Corrections.{c}
use Rattle.intake.specs.declared.singles.Taken.{Taken}
use Rattle.intake.specs.Taken.{taken}

-- "d is total level less background, in tenths."
abbrev pub above : ℤ → ℤ → ℤ
above total background = total -ℤ background

-- "d >= 100, no change; 60 < d < 100, subtract c(d); d <= 60, negative included, subtract 13"
unfoldable pub field_level : ℤ → ℤ → ℤ
field_level total background =
    cond (le_z (above total background) (pos 60)) (total -ℤ pos 13)
    (cond (lt_z (above total background) (pos 100)) (total -ℤ pos (c (P (above total background)))) total)

-- "and mark the result a limit"
unfoldable pub field_mark : ℤ → ℤ → Bool
field_mark total background = le_z (above total background) (pos 60)

-- a value in range, or refusal 4
abbrev pub ranged : Bool → Result Taken Refusal → Result Taken Refusal
ranged ok t = cond ok t (Err BandRange)

-- the field rule as a call: "tests total, then background (4)"
unfoldable pub field_of : ℤ → ℤ → Result Taken Refusal
field_of total background =
    ranged (in_range total) (ranged (in_range background)
    (Ok (taken (field_level total background) (field_mark total background))))

-- "d >= 150, no change; 60 <= d < 150, subtract c(d); below 60, refusal 5"
unfoldable pub laboratory_level : ℤ → ℤ → Result Taken Refusal
laboratory_level total background =
    cond (lt_z (above total background) (pos 60)) (Err BackgroundTooNear)
    (cond (lt_z (above total background) (pos 150)) (Ok (taken (total -ℤ pos (c (P (above total background)))) false))
    (Ok (taken total false)))

unfoldable pub laboratory_of : ℤ → ℤ → Result Taken Refusal
laboratory_of total background = ranged (in_range total) (ranged (in_range background) (laboratory_level total background))

-- ---- between the definition and the code: c(d) is taken off below `clear`, and from there on there is no change
abbrev pub lessened : ℤ → ℤ → ℤ → ℤ
lessened total d clear = cond (lt_z d clear) (total -ℤ pos (c (P d))) total
