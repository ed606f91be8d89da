-- The register's calls out of numbers and lent arrays.
use Rattle.std.specs.Prelude.{cond, List, ℕ, ◌≤◌, leb, ℤ, Option, None, Some, Result, IfOk}
use Rattle.quantity.specs.Answers.{Answer}
use Rattle.quantity.specs.declared.quantities.BandSet.{BandSet}
use Rattle.quantity.specs.declared.quantities.Fen.{Fen}
use Rattle.quantity.specs.declared.refusals.Refusal.{Refusal}
use Rattle.kinds.specs.declared.kinds.Kind.{Kind}
use Rattle.kinds.specs.declared.kinds.Kind.TheVariants.{A3}
use Rattle.kinds.specs.Kinds.{kind_of}
use Rattle.register.specs.declared.registers.Register.{Register}
use Rattle.register.specs.declared.steps.Billed.{Billed}
use Rattle.entry.specs.Entries.{Call, call_of}
use Rattle.register.specs.Registers.{billed_of, after_of, owed_of, billed_answer, owed_answer}
use Rattle.ledger.specs.Closings.{closed_of}
use Rattle.door.specs.Lists.{set_from}

-- a number that is no kind's is asked for without bands, which rating refuses with 1
abbrev pub kind_asked : Option Kind → Kind
kind_asked (Some kind) = kind
kind_asked None = A3

abbrev pub bands_asked : Option Kind → BandSet → BandSet
bands_asked (Some kind) set = set
bands_asked None set = record { values = set.values; marks = set.marks; len = 0 }

-- the call of a customer's number, a key, a kind's number, an array of tenths, marks and a price
unfoldable pub call_given : ℕ → List ℕ → ℕ → List ℤ → ℕ → ℕ → Call
call_given customer key kind values marks price =
    call_of customer key (kind_asked (kind_of kind)) (bands_asked (kind_of kind) (set_from values marks)) price

-- imbrolt_bill: the answer; and the register afterwards, unchanged where the lent array has no room for the seven numbers
unfoldable pub bill_answer : Register → Call → Answer ℤ
bill_answer r x = billed_answer (billed_of r x)

unfoldable pub bill_left : Register → Call → ℕ → Register
bill_left r x places = cond (leb 7 places) (after_of r x) r

-- imbrolt_owed
unfoldable pub owed_given : Register → ℕ → Answer ℤ
owed_given r customer = owed_answer (owed_of r customer)

-- imbrolt_close: the answer is that of imbrolt_owed; and the register afterwards, unchanged where the lent array has no room for
-- the total
unfoldable pub close_left : Register → ℕ → ℕ → Register
close_left r customer places = cond (leb 1 places) (closed_of r customer) r

-- ---- between the definitions and the code

-- numbers that fit an answer, as those of every bill and of every total do
abbrev pub BillFits : Result Billed Refusal → Type 0
BillFits billed = IfOk billed (λ b. (b.sheet.shifts ≤ 500) × (b.charged.0 ≤ 1000000))

abbrev pub OwedFits : Result Fen Refusal → Type 0
OwedFits owed = IfOk owed (λ total. total.0 ≤ 512000000)
