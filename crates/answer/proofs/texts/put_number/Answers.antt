-- `answer::texts::put_number` meets its contract: below 0 a hyphen and the digits of what it is below, else a count.
-- Assumes nothing.
use Rattle.std.proofs.Common.{◌≡◌, ◌∷◌, [], ◌<◌, length-set, refl, ap, ◌∙◌, arith}
use mir.Facts.{to_z-of_z}
use Rattle.laws.specs.Parts.{N}
use Rattle.laws.specs.Lists.{front}
use Rattle.laws.proofs.Ints.{ints}
use Rattle.laws.proofs.Fronts.{tail-home}
use Rattle.answer.specs.Texts.{tab, hyphen, decimal}
use Rattle.answer.proofs.Writers.{stored2, below_length, number-front}
use Rattle.answer.proofs.texts.put_number.Goals as goal
use Rattle.answer.proofs.texts.put_number.Goals.{Then-z-lt0}

below-nought : (c : Then-z-lt0) → 0 < N c.args.z
below-nought c = omega (ints, rw (to_z-of_z c.ranges.z) at c.if-z-lt0.true)

pub bounds-out-1 : goal.bounds-out-1
bounds-out-1 c = simp length-set (omega (arith, below_length c.args.z (below-nought c)))

pub returns-then-z-lt0-clause-out_after : goal.returns-then-z-lt0-clause-out_after
returns-then-z-lt0-clause-out_after c =
    let z = c.args.z in
    let l = c.args.out.now in
    let below = below-nought (goal.at.returns-then-z-lt0-clause-out_after c).Then-z-lt0 in
    let shown : c.magnitude.result ≡ N z = rw (to_z-of_z c.ranges.z) at c.magnitude.ensures in
    number-front z l below
    (tail-home (tab ∷ hyphen ∷ []) l 2 (stored2 l tab hyphen (omega (arith, below_length z below))) refl (omega (arith, below_length z below)) (decimal c.magnitude.result)
    c.put_decimal.ensures.out_after ∙ ap (λ n. front (tab ∷ hyphen ∷ decimal n) l) shown)
