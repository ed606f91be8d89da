-- Document 01, "Request and answer lines": the text of a request, as a list of bytes.
use Rattle.std.specs.Prelude.{Bool, true, false, List, [], ◌∷◌, ◌++◌, map, ℕ, suc, ◌/◌, ◌%◌, ◌≤◌, ℤ, pos, negsuc}
use Rattle.laws.specs.Parts.{P, N}
use Rattle.kinds.specs.declared.kinds.Kind.{Kind}
use Rattle.answer.specs.Texts.{hyphen, point, digit, line_text, decimal, kind_text}

-- a band: missing, or whether it is a limit value and its tenths
pub data Band : Type 0 where
  missing : Band
  level : Bool → ℤ → Band

-- "an optional minus, 1 to 3 digits without a needless leading zero, a point, one digit"
unfoldable pub figure_text : ℕ → List ℕ
figure_text m = decimal (m / 10) ++ (point ∷ digit (m % 10) ∷ [])

unfoldable pub level_text : ℤ → List ℕ
level_text (pos m) = figure_text m
level_text (negsuc m) = hyphen ∷ figure_text (suc m)

-- 76 is L
abbrev pub mark_text : Bool → List ℕ
mark_text true = 76 ∷ []
mark_text false = []

-- "`-` for missing, or an optional `L` (limit), then .."
unfoldable pub band_text : Band → List ℕ
band_text missing = hyphen ∷ []
band_text (level limit z) = mark_text limit ++ level_text z

-- a value that has such a text: 999.9 dB at most, either way
pub data BandOk : Band → Type 0 where
  gone : BandOk missing
  given : {limit : Bool} {z : ℤ} → P z ≤ 9999 → N z ≤ 9999 → BandOk (level limit z)

pub data BandsOk : List Band → Type 0 where
  none : BandsOk []
  more : {b : Band} {bs : List Band} → BandOk b → BandsOk bs → BandsOk (b ∷ bs)

-- "Request: kind, key, one or more bands"
unfoldable pub request_text : Kind → List ℕ → List Band → List ℕ
request_text kind key bands = line_text (kind_text kind) (key ∷ map band_text bands)
