-- Sides by their numbers.
use Rattle.std.specs.Prelude.{ℕ, zero, suc}
use Rattle.products.specs.declared.grades.Side.{Side}
use Rattle.products.specs.declared.grades.Side.TheVariants.{Outside, Inside}

-- side: 0 outside, anything else inside
abbrev pub side_of : ℕ → Side
side_of zero = Outside
side_of (suc n) = Inside
