-- Document 01, "Quantities and ranges": the whole number of units nearest a float's exact binary value. A finite float
-- `fin s m e` is m * 2 ^ e, negative where s, and 2 ^ e is the fraction up e / down e. One theory serves tenths and
-- hundredths: the scale is how many units make a whole. `proofs/Nearest.antt` says what it means.
use Rattle.std.specs.Prelude.{Bool, true, false, cond, ℕ, ◌+◌, ◌-◌, ◌*◌, ◌/◌, ltb, ℤ, pos, neg_ℤ, ◌+ℤ◌, Float}
use Rattle.std.specs.Int.Signed.{shr_z}
use Rattle.std.specs.Float.{nan, inf, fin}
use Rattle.std.specs.Float.Ieee.{up, down}
use Rattle.intake.specs.declared.rounding.Whole.{Whole}
use Rattle.intake.specs.declared.rounding.Whole.TheVariants.{Units, Beyond, NotFinite}

-- n, negative where s
abbrev pub signed_by : Bool → ℕ → ℤ
signed_by false n = pos n
signed_by true n = neg_ℤ (pos n)

-- the whole number nearest n / d, negative where s, "a tie going to the greater": the whole part, taken downward, of that and 1/2
unfoldable pub nearest_to : Bool → ℕ → ℕ → ℤ
nearest_to s n d = shr_z (pos d +ℤ signed_by s (2 * n)) (2 * d)

-- "the tenth nearest its exact binary value, a tie going to the greater", at a scale of 10
abbrev pub nearest : ℕ → Bool → ℕ → ℤ → ℤ
nearest scale s m e = nearest_to s (scale * (m * up e)) (down e)

-- ---- between the definition and the code

-- how far from 0 that number is: a half goes up, so toward 0 where s
abbrev pub held_of : Bool → ℕ
held_of false = 0
held_of true = 1

unfoldable pub size_of : Bool → ℕ → ℕ → ℕ
size_of s n d = (2 * n + d - held_of s) / (2 * d)

-- a float in units: beyond what any range reaches from 256 on
unfoldable pub whole_of : ℕ → Float → Whole
whole_of scale nan = NotFinite
whole_of scale (inf s) = NotFinite
whole_of scale (fin s m e) = cond (ltb (m * up e) (256 * down e)) (Units (nearest scale s m e)) Beyond
