-- `energy::energies::divided` meets its contract: the product is exact. Assumes nothing.
use mathlib.Core.Path.{◌≡◌, ◌∙◌, ap₂}
use Prim.Native.Nat.{ℕ, ◌+◌, ◌*◌, ◌/◌, ◌^◌}
use native.Mathlib.Nat.{div-le_self}
use native.Mathlib.Omega.{arith}
use Rattle.energy.proofs.Inverses.{Exact, exact}
use Rattle.energy.proofs.energies.divided.Goals as goal
use Rattle.energy.proofs.energies.divided.Goals.{After-inverse}

product : (c : After-inverse) → Exact c.args.n c.args.k
product c = exact _ _ c.requires.0 c.requires.1

quotient : (c : After-inverse) → c.from.result * c.inverse.result / 2 ^ (33 + 3 * c.args.k) ≡ c.args.n / 10 ^ c.args.k
quotient c = ap₂ (λ (n m : ℕ). n * m / 2 ^ (33 + 3 * c.args.k)) c.from.ensures c.inverse.ensures ∙ (product c).is

pub overflow_mul-result : goal.overflow_mul-result
overflow_mul-result c = rw (c.from.ensures, c.inverse.ensures) (omega (arith, (product c).fits))

pub overflow_cast-result-2 : goal.overflow_cast-result-2
overflow_cast-result-2 c = omega (arith, quotient c, div-le_self c.args.n (10 ^ c.args.k))

pub returns : goal.returns
returns c = quotient c
