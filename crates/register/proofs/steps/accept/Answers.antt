-- `register::steps::accept` meets its contract: each refusal in its order, then what is due by the place of the key. Assumes
-- nothing.
use mathlib.Core.Path.{sym}
use native.Mathlib.Omega.{arith}
use Rattle.quantity.proofs.Shapes.{key-shape}
use Rattle.entry.proofs.Bands.{entry_length, entry-kind}
use Rattle.register.proofs.steps.accept.Goals as goal

pub entry_of-e-requires : goal.entry_of-e-requires
entry_of-e-requires c = (key-shape c.args.key.now (sym c.if-not-is_key_of.ensures)).most

pub place-requires-clause-length_bound : goal.place-requires-clause-length_bound
place-requires-clause-length_bound c =
    let e = c.entry_of-e.ensures in
    (omega (arith, entry_length _ e, (key-shape c.args.key.now (sym c.if-not-is_key_of.ensures)).most), entry-kind _ e)
