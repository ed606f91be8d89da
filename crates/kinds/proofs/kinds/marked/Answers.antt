-- `kinds::kinds::marked` meets its contract: the remainder by a power of two holds the marks below. Assumes nothing.
use Rattle.curve.proofs.Searched.{any-bits}
use Rattle.kinds.specs.Kinds.{bands_of}
use Rattle.kinds.proofs.kinds.marked.Goals as goal

pub returns : goal.returns
returns c = cc (any-bits c.args.marks (bands_of c.args.kind))
