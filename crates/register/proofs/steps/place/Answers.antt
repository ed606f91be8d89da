-- `register::steps::place` meets its contract: of a sound register, what is due by the place of the key. Assumes nothing.
use mathlib.Core.Path.{sym, refl}
use Rattle.register.proofs.Dues.{due-same, due-other, due-new, due-full}
use Rattle.register.proofs.steps.place.Goals as goal

pub returns-in-Some-clause-accepted : goal.returns-in-Some-clause-accepted
returns-in-Some-clause-accepted c =
    let f = c.in-Some.ensures in
    rw (due-same c.args.register.now c.args.e c.args.sheet _ f.0 f.1 (sym c.if-same_bands.ensures)) refl

pub returns-in-Some-2-clause-accepted : goal.returns-in-Some-2-clause-accepted
returns-in-Some-2-clause-accepted c =
    let f = c.in-Some.ensures in
    rw (due-other c.args.register.now c.args.e c.args.sheet _ f.0 f.1 c.requires.is_sound (sym c.if-same_bands.ensures)) refl

pub returns-in-None-clause-accepted : goal.returns-in-None-clause-accepted
returns-in-None-clause-accepted c = rw (due-new c.args.register.now c.args.e c.args.sheet c.in-None.ensures c.if-register-lt512.true) refl

pub returns-in-None-2-clause-accepted : goal.returns-in-None-2-clause-accepted
returns-in-None-2-clause-accepted c = rw (due-full c.args.register.now c.args.e c.args.sheet c.in-None.ensures c.if-register-lt512.false) refl
