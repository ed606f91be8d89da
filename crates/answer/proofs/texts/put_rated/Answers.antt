-- `answer::texts::put_rated` meets its contract. The invariant: the fields so far stand at the front, each behind its tab.
-- Assumes nothing.
use Rattle.std.proofs.Common.{◌+◌, ◌≤◌, ◌<◌, ℕ, pos, length, refl, ap, ◌∙◌, arith}
use Rattle.laws.specs.Lists.{front}
use Rattle.laws.proofs.Fronts.{tail-length}
use Rattle.answer.specs.declared.texts.Field.TheVariants.{Number}
use Rattle.answer.specs.Texts.{others, texts_of, tabbed}
use Rattle.answer.proofs.Fields.{done, done-within, done-length, field-home, line-home}
use Rattle.answer.proofs.texts.put_rated.Goals as goal
use Rattle.answer.proofs.texts.put_rated.Goals.{After-fields_of-field-items}

-- the fields have room: those so far, each with the one behind it, and a byte more
room : (c : After-fields_of-field-items) → length (others (texts_of c.fields_of-field-items.result)) ≤ length c.args.out.now
room c = omega (arith, ap (λ t. length (others t)) c.fields_of-field-items.ensures.0)

within : (c : After-fields_of-field-items) (i : ℕ) → length (done c.fields_of-field-items.result i) < length c.args.out.now
within c = done-within c.fields_of-field-items.result c.args.out.now (room c)

pub loop-field-init : goal.loop-field-init
unfolding tabbed texts_of
loop-field-init c = record { counted = refl; written = refl }

pub put_field-at-requires : goal.put_field-at-requires
put_field-at-requires c =
    let here = (goal.at.put_field-at-requires c).After-fields_of-field-items in
    let l = c.loop-field in
    let fs = c.fields_of-field-items.result in
    let h = within here l.field-index in
    let k = within here (l.field-index + 1) in
    let m = done-length fs c.args.out.now (room here) (Number (pos 0)) l.field-index (omega arith) in
    omega (arith, tail-length (done fs l.field-index) c.args.out.now l.at l.invariant.written l.invariant.counted (omega arith))

pub loop-field-preserved : goal.loop-field-preserved
loop-field-preserved c =
    let here = (goal.at.loop-field-preserved c).After-fields_of-field-items in
    let l = c.loop-field in
    let fs = c.fields_of-field-items.result in
    let d = c.put_field-at.ensures in
    let m = done-length fs c.args.out.now (room here) (Number (pos 0)) l.field-index (omega arith) in
    record {
      counted = omega arith;
      written = field-home fs c.args.out.now (room here) (Number (pos 0)) l.field-index l.at (omega arith) l.invariant.counted l.invariant.written d.out_after;
    }

pub bounds-out-at : goal.bounds-out-at
bounds-out-at c =
    let here = (goal.at.bounds-out-at c).After-fields_of-field-items in
    let h = within here c.loop-field.field-index in
    omega arith

pub returns : goal.returns
returns c =
    let here = (goal.at.returns c).After-fields_of-field-items in
    let l = c.loop-field in
    line-home c.fields_of-field-items.result c.args.out.now (room here) l.field-index l.at (omega arith) l.invariant.counted l.invariant.written
    ∙ ap (λ t. front (others t) c.args.out.now) c.fields_of-field-items.ensures.0
