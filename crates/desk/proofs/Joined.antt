-- A rating from readings is the rating of what their intake gives. Assumes nothing.
use mathlib.Core.Path.{◌≡◌, sym, ◌∙◌, ap}
use mathlib.Core.List.{List}
use Prim.Native.Nat.{ℕ}
use Rattle.quantity.specs.declared.quantities.Reading.{Reading}
use Rattle.quantity.specs.declared.refusals.Refusal.{Refusal}
use Rattle.measurement.specs.Lists.{list_of}
use Rattle.kinds.specs.declared.kinds.Kind.{Kind}
use Rattle.kinds.specs.Kinds.{bands_of}
use Rattle.rating.specs.Sheets.{rated_of}
use Rattle.desk.specs.Calls.{rated_by, readings_rated}
use Rattle.std.specs.Prelude.{Result, Ok, Err}
use Rattle.quantity.specs.declared.quantities.BandSet.{BandSet}
use Rattle.rating.specs.declared.sheets.Sheet.{Sheet}

pub readings-refused : (k : Kind) (readings : List Reading) (len n : ℕ) (q : Refusal) → n ≡ bands_of k → list_of readings len n ≡ Err q
    → Err q ≡ readings_rated k readings len
unfolding readings_rated
readings-refused k readings len n q e h = ap (rated_by k) (sym h ∙ ap (list_of readings len) e)

pub readings-rated : (k : Kind) (readings : List Reading) (len n : ℕ) (s : BandSet) (t : Result Sheet Refusal) → n ≡ bands_of k → list_of readings len n ≡ Ok s
    → t ≡ rated_of k s → t ≡ readings_rated k readings len
unfolding readings_rated
readings-rated k readings len n s t e h g = g ∙ ap (rated_by k) (sym h ∙ ap (list_of readings len) e)
