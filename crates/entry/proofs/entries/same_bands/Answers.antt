-- `entry::entries::same_bands` meets its contract: the kind, then the marks, then the values. Assumes nothing.
use mathlib.Core.Path.{refl}
use native.Mathlib.Omega.{arith}
use Rattle.kinds.proofs.Facts.{bands_most}
use Rattle.entry.proofs.Bands.{bands_of_kind, values_eq}
use Rattle.entry.proofs.entries.same_bands.Goals as goal
use Rattle.entry.proofs.entries.same_bands.Goals.{then-e-f, else-e-f}

pub returns-then-marks_of : goal.returns-then-marks_of
returns-then-marks_of c =
    let a = c.args in
    elim c.if-e-f.branch [
      | then-e-f w ↦
          let v = values_eq a.e a.f c.bands_of-n.result (omega (arith, bands_most)) (omega (arith, bands_most)) in
          grind (arith, v, bands_of_kind a.e a.f a.kind c.requires w.marks_of.ensures w.marks_of-then-e-f.ensures)
      | else-e-f w ↦ grind arith
    ]

pub returns-else-marks_of : goal.returns-else-marks_of
returns-else-marks_of c =
    let a = c.args in
    elim c.if-e-f.branch [
      | then-e-f w ↦ grind (arith, bands_of_kind a.e a.f a.kind c.requires w.marks_of.ensures w.marks_of-then-e-f.ensures)
      | else-e-f w ↦ grind (arith, bands_of_kind a.e a.f a.kind c.requires refl refl)
    ]
