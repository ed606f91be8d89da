-- Document 01, "The lift list": the value of a lifted band.
use Rattle.std.specs.Prelude.{Bool, true, false, ℤ, pos, negsuc}

-- "replaced by 1500 (impact: -200)"
abbrev pub highest : Bool → ℤ
highest true = pos 1500
highest false = negsuc 199
