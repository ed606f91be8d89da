-- `request::bands::bands_at` meets its contract. The loop's invariant: the bands read so far, with those that the rest of the
-- line gives, are the bands of the line. The measure is what is left of the line. Assumes nothing.
use Rattle.std.proofs.Common.{◌≡◌, sym, ◌∙◌, arith}
use Rattle.quantity.specs.Refusals.{or_else}
use Rattle.request.proofs.Gathers.{gather-start, further, or-given, or-kept, again-few, again-many, out-broken, out_none, out-end}
use Rattle.request.proofs.Leaves.{inside-byte}
use Rattle.request.proofs.bands.bands_at.Goals as goal
use Rattle.request.proofs.bands.bands_at.Goals.{Joined-is_some, then-is_some, else-is_some, then-count-lt16, else-count-lt16}

-- the first refusal after a turn
first : (c : Joined-is_some) → c.if-is_some.fault ≡ or_else c.loop-at.fault c.in_ok-band.band.fault
first c =
    let f = c.loop-at.fault in
    let g = c.in_ok-band.band.fault in
    elim c.if-is_some.branch [
      | then-is_some w ↦ w.fault-is ∙ w.or-fault.ensures ∙ or-given f g
      | else-is_some w ↦ w.fault-is ∙ or-kept f g (sym w.if-is_some.false ∙ c.is_some.ensures)
    ]

pub loop-at-init : goal.loop-at-init
loop-at-init c = gather-start c.args.s.now c.args.start

pub returns-in_err-band : goal.returns-in_err-band
returns-in_err-band c = out-broken c.loop-at.invariant _ c.from_residual.ensures (sym c.byte.ensures ∙ c.loop-at-test.true) c.in_err-band.ensures

pub loop-at-smaller : goal.loop-at-smaller
loop-at-smaller c =
    let h = inside-byte c.args.s.now c.loop-at.at c.byte.result c.byte.ensures (omega arith) in
    let k = further c.loop-at.invariant c.in_ok-band.band (sym c.byte.ensures ∙ c.loop-at-test.true) c.in_ok-band.ensures in
    omega arith

pub loop-at-preserved : goal.loop-at-preserved
loop-at-preserved c =
    let b = c.in_ok-band in
    let tab = sym c.byte.ensures ∙ c.loop-at-test.true in
    let j = c.if-count-lt16 in
    let g = first (goal.at.loop-at-preserved c).Joined-is_some in
    elim j.branch [
      | then-count-lt16 w ↦
          again-few c.loop-at.invariant b.band tab b.ensures j.values j.marks j.weight c.if-is_some.fault g
          w.weight_of-marks.result w.weight_of-marks.ensures w.if-count-lt16.true w.values-is w.marks-is w.weight-is
      | else-count-lt16 w ↦
          again-many c.loop-at.invariant b.band tab b.ensures j.values j.marks j.weight c.if-is_some.fault g
          w.if-count-lt16.false w.values-is w.marks-is w.weight-is
    ]

pub returns-then-byte-ne10 : goal.returns-then-byte-ne10
returns-then-byte-ne10 c =
    out_none c.loop-at.invariant (λ e. c.loop-at-test.false (c.byte.ensures ∙ e)) (λ e. c.if-byte-ne10.true (c.byte-2.ensures ∙ e))

pub returns : goal.returns
returns c = out-end c.loop-at.invariant (sym c.byte-2.ensures ∙ c.if-byte-ne10.false)
