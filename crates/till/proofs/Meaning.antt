-- A number that is no kind's owns no band count: after 19 and 11 it is refused with 1. Assumes nothing.
use mathlib.Core.Path.{◌≡◌, refl, sym, ◌∙◌, ap}
use mathlib.Core.Bool.{true}
use mathlib.Core.List.{List}
use Prim.Native.Nat.{ℕ}
use native.Mathlib.Omega.{arith}
use lib.IntN.{ℤ}
use Rattle.quantity.specs.Answers.Answer.{refused}
use Rattle.quantity.specs.declared.quantities.BandSet.{BandSet}
use Rattle.quantity.specs.Keys.{key_shape}
use Rattle.quantity.specs.declared.refusals.Refusal.TheVariants.{BandCount}
use Rattle.kinds.specs.declared.kinds.Kind.TheVariants.{A3}
use Rattle.kinds.specs.Kinds.{kind_of}
use Rattle.rating.proofs.RatedLaws.{wrong-count}
use Rattle.register.specs.declared.registers.Register.{Register}
use Rattle.entry.specs.Entries.{call_of}
use Rattle.register.specs.Registers.{sound, Due, billed_by, billed_of, billed_answer}
use Rattle.register.proofs.Dues.{due-refused}
use Rattle.door.specs.Lists.{set_from}
use Rattle.till.specs.Registers.{kind_asked, bands_asked, call_given, bill_answer}
use Rattle.std.specs.Prelude.{Option, None}
use Rattle.kinds.specs.declared.kinds.Kind.{Kind}

pub unknown-kind : (r : Register) (customer : ℕ) (key : List ℕ) (kind : ℕ) (values : List ℤ) (marks price : ℕ)
    → kind_of kind ≡ None → sound r ≡ true → key_shape key ≡ true
    → bill_answer r (call_given customer key kind values marks price) ≡ refused 1
unfolding call_given bill_answer billed_of
unknown-kind r customer key kind values marks price u s k =
    let none : BandSet = bands_asked None (set_from values marks) in
    ap (λ (n : Option Kind). billed_answer (billed_of r (call_of customer key (kind_asked n) (bands_asked n (set_from values marks)) price))) u
    ∙ ap (λ (d : Due). billed_answer (billed_by d price))
    (due-refused r (call_of customer key A3 none price) s k BandCount (sym (wrong-count A3 none 16 refl (λ h. omega arith))))
