-- The register's answers fit the numbers that are given for them. Assumes nothing.
use mathlib.Core.Path.{◌≡◌, sym, subst}
use Prim.Native.Nat.{ℕ}
use Rattle.quantity.specs.declared.quantities.Fen.{Fen}
use Rattle.register.specs.declared.registers.Register.{Register}
use Rattle.entry.specs.Entries.{Call}
use Rattle.register.specs.Registers.{billed_of, owed_of}
use Rattle.register.proofs.Fits.{bill-by, owed-by}
use Rattle.till.specs.Registers.{BillFits, OwedFits}
use Rattle.std.specs.Prelude.{Result}
use Rattle.register.specs.declared.steps.Billed.{Billed}
use Rattle.quantity.specs.declared.refusals.Refusal.{Refusal}

-- ---- a bill
pub bill_fits : (r : Register) (x : Call) (b : Result Billed Refusal) → b ≡ billed_of r x → BillFits b
bill_fits r x b e = subst BillFits (sym e) (bill-by BillFits (λ f. tt) (λ b m n. (m, n)) r x)

-- ---- a total
pub owed_fits : (r : Register) (customer : ℕ) (o : Result Fen Refusal) → o ≡ owed_of r customer → OwedFits o
owed_fits r customer o e = subst OwedFits (sym e) (owed-by OwedFits (λ f. tt) (λ t h. h) r customer)
