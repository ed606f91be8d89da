-- `quantity::quantities::even_half` meets its contract: the quotient is within a half, and at a half it is the even one. Assumes nothing.
use native.Mathlib.Omega.{arith}
use Rattle.quantity.proofs.Halves.{even-half-unique}
use Rattle.quantity.proofs.quantities.even_half.Goals as goal

pub returns : goal.returns
returns c =
    even-half-unique _ _ (record {
      low = omega arith;
      high = omega arith;
      tie = λ e. omega arith;
    })
