-- Sets and readings out of lent arrays.
use Rattle.std.specs.Prelude.{cond, List, ℕ, zero, suc, ◌%◌, ltb, ℤ, pos, Float, length, get_or}
use Rattle.std.specs.Float.{nan}
use Rattle.laws.specs.Lists.{listed}
use Rattle.quantity.specs.declared.quantities.Tenths.{Tenths}
use Rattle.quantity.specs.declared.quantities.BandSet.{BandSet}
use Rattle.quantity.specs.declared.quantities.Reading.{Reading}
use Rattle.quantity.specs.declared.quantities.Reading.TheVariants.{Level, Limit, Missing}
use Rattle.quantity.specs.Quantities.{tenths}

-- value i of an array of tenths; 0 past its end (what lies past the stated length never matters to an answer)
abbrev pub tenths_at : List ℤ → ℕ → Tenths
tenths_at values i = tenths (get_or values i (pos 0))

-- the set of an array of tenths: its length is the array's, also above 16, and its marks are the low sixteen bits
unfoldable pub set_from : List ℤ → ℕ → BandSet
set_from values marks = record { values = listed (tenths_at values) 16 0; marks = marks % 65536; len = length values }

-- a reading: 0 a level, 1 a limit value; an unknown mark is a missing reading
abbrev pub reading_from : ℕ → Float → Reading
reading_from zero x = Level x
reading_from (suc zero) x = Limit x
reading_from (suc (suc m)) x = Missing

-- reading i of two arrays: missing where its mark lies past the end (and where its value does, which no answer asks for)
unfoldable pub reading_at : List ℕ → List Float → ℕ → Reading
reading_at marks values i =
    cond (ltb i (length marks)) (cond (ltb i (length values)) (reading_from (get_or marks i 0) (get_or values i nan)) Missing) Missing

-- the 48 readings that two arrays begin with
unfoldable pub readings_from : List ℕ → List Float → List Reading
readings_from marks values = listed (reading_at marks values) 48 0
