-- `register::sound::look` meets its contract. The invariant: the entries passed are sound, the words so far are theirs, none of
-- them is repeated, and the remainders of their words were met. Assumes nothing.
use mathlib.Core.Path.{◌≡◌, refl, sym, ◌∙◌}
use mathlib.Core.Bool.{true}
use Prim.Native.Nat.{◌≤◌}
use native.Mathlib.Omega.{arith}
use Rattle.laws.proofs.Lists.{agreed-none, agreed-set}
use Rattle.laws.proofs.Ranges.{all_none, all_more, all-fails}
use Rattle.entry.specs.Entries.{entry_ok}
use Rattle.entry.proofs.Oks.{ok-short}
use Rattle.register.specs.Registers.{entry_at}
use Rattle.register.proofs.Places.{met-none, met-apart, met-more, place-some, repeated_fails}
use Rattle.register.proofs.Soundness.{shorts, many-unsound, bad-unsound, twice-unsound, sound-made}
use Rattle.register.proofs.sound.look.Goals as goal
use Rattle.register.proofs.sound.look.Goals.{Else-not-entry_ok, else-met-slot-eq1-via-then-met-slot-eq1+else-is_some, else-met-slot-eq1-via-else-met-slot-eq1}

pub returns-then-count-gt512 : goal.returns-then-count-gt512
returns-then-count-gt512 c = many-unsound _ c.if-count-gt512.true

pub loop-i-init : goal.loop-i-init
loop-i-init c = (all_none _, agreed-none 0 _ 512 _ refl, met-none _ _ refl)

pub returns-then-not-entry_ok : goal.returns-then-not-entry_ok
returns-then-not-entry_ok c =
    bad-unsound _ (all-fails _ c.args.register.now.count c.loop-i.i (omega arith) (sym c.entry_ok.ensures ∙ c.if-not-entry_ok.true))

-- an entry that is looked at further is sound, so its key is short
good : (c : Else-not-entry_ok) → entry_ok (entry_at c.args.register.now c.loop-i.i) ≡ true
good c = sym c.entry_ok.ensures ∙ c.if-not-entry_ok.false

short : (c : Else-not-entry_ok) → (entry_at c.args.register.now c.loop-i.i).length ≤ 32
short c = ok-short _ (good c)

pub word_of-w-requires : goal.word_of-w-requires
word_of-w-requires c = short (goal.at.word_of-w-requires c).Else-not-entry_ok

pub place_of-requires-clause-n_bound : goal.place_of-requires-clause-n_bound
place_of-requires-clause-n_bound c = (omega arith, short (goal.at.place_of-requires-clause-n_bound c).Else-not-entry_ok, c.word_of-w.ensures)

pub place_of-requires-clause-short : goal.place_of-requires-clause-short
place_of-requires-clause-short c = shorts c.args.register.now c.loop-i.i c.loop-i.invariant.0

-- whether its customer and key are there before it
pub returns-then-is_some : goal.returns-then-is_some
returns-then-is_some c =
    let r = c.args.register.now in
    let i = c.loop-i.i in
    twice-unsound r (repeated_fails r r.count i (omega arith) (sym (place-some r i (entry_at r i) _ c.place_of.ensures) ∙ sym c.if-is_some.ensures))

pub loop-i-preserved : goal.loop-i-preserved
loop-i-preserved c =
    let r = c.args.register.now in
    let l = c.loop-i in
    let w = c.word_of-w in (
      all_more _ l.i l.invariant.0 (good (goal.at.loop-i-preserved c).Else-not-entry_ok),
      agreed-set 0 _ 512 l.words l.i w.result (omega arith) w.ensures l.invariant.1,
      met-more _ l.met l.i w.result w.ensures l.invariant.2 (
          elim c.else-met-slot-eq1.branch [
            | else-met-slot-eq1-via-then-met-slot-eq1+else-is_some u ↦
                sym (place-some r l.i (entry_at r l.i) _ u.place_of.ensures) ∙ sym u.if-is_some.ensures
            | else-met-slot-eq1-via-else-met-slot-eq1 u ↦ met-apart _ l.met l.i _ w.ensures l.invariant.2 u.if-met-slot-eq1.false
          ]),
    )

pub returns : goal.returns
returns c =
    let l = c.loop-i in (
      sound-made _ l.i (omega arith) c.if-count-gt512.false l.invariant.0 l.invariant.2.fresh,
      λ j h. l.invariant.1.same j (omega arith),
    )
