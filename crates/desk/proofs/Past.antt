-- What lies past the stated length of a list of readings never matters to its rating. Assumes nothing.
use mathlib.Core.Path.{◌≡◌, ap}
use mathlib.Core.List.{List}
use Prim.Native.Nat.{ℕ}
use Rattle.quantity.specs.declared.quantities.Reading.{Reading}
use Rattle.measurement.proofs.Past.{Alike, list-past}
use Rattle.kinds.specs.declared.kinds.Kind.{Kind}
use Rattle.kinds.specs.Kinds.{bands_of}
use Rattle.desk.specs.Calls.{rated_by, readings_rated}

pub readings-past : (k : Kind) (a b : List Reading) (len : ℕ) → Alike a b len → readings_rated k a len ≡ readings_rated k b len
unfolding readings_rated
readings-past k a b len h = ap (rated_by k) (list-past a b len (bands_of k) h)
