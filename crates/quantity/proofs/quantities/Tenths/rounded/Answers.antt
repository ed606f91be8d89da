-- `quantity::quantities::Tenths::rounded` meets its contract: what rounds a count from -1000 dB rounds the term. Assumes nothing.
use mathlib.Core.Path.{◌≡◌, ◌∙◌, ap}
use Prim.Native.Nat.{ℕ, ◌+◌}
use native.Mathlib.Omega.{arith}
use lib.IntN.{pos, ◌-ℤ◌}
use Rattle.laws.specs.Parts.{P, N}
use Rattle.laws.proofs.Ints.{ints}
use Rattle.quantity.proofs.Rim.{back}
use Rattle.quantity.proofs.Halves.{even-half-is, half-even-counted}
use Rattle.quantity.proofs.quantities.Tenths.rounded.Goals as goal
use Rattle.quantity.proofs.quantities.Tenths.rounded.Goals.{After-above-tenths}

-- the count of tenths from -1000 dB
counted : (c : After-above-tenths) → c.above-tenths.result + N c.args.self.0 ≡ 10000 + P c.args.self.0
counted c = rw (back c.args.self.0 (omega arith)) at c.above-tenths.ensures

pub less-requires : goal.less-requires
less-requires c =
    let count = counted (goal.at.less-requires c).After-above-tenths in (
      omega (ints, count, c.requires, c.even_half.ensures, (even-half-is c.above-tenths.result).low),
      omega arith,
    )

pub returns : goal.returns
returns c =
    back c.less.result c.less.type_inv
    ∙ c.less.ensures
    ∙ ap (λ (m : ℕ). pos m -ℤ pos 1000) c.even_half.ensures
    ∙ half-even-counted _ _ (counted (goal.at.returns c).After-above-tenths)
