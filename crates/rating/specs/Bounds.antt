-- Between the definitions and the code: sheets whose numbers stay so small that none of their sums can wrap, as every sheet of
-- accepted bands does. Nothing here is part of what a caller must believe.
use Rattle.std.specs.Prelude.{◌≤◌, ℤ}
use Rattle.laws.specs.Parts.{P, N}
use Rattle.rating.specs.declared.sheets.Sheet.{Sheet}
use Rattle.rating.specs.Sheets.{term_of}

abbrev pub Small : ℤ → Type 0
Small z = (P z ≤ 10000) × (N z ≤ 10000)

pub record SmallSheet (sheet : Sheet) : Type 0 where
  pub rating : Small sheet.rating.0
  pub first : Small sheet.first.0
  pub second : Small (term_of sheet.second)
