-- `entry::entries::kept_key` meets its contract: the key, and zeros after it. Assumes nothing.
use mathlib.Core.Path.{refl}
use lib.ListN.{get_or, length}
use Rattle.entry.proofs.Kept.{kept}
use Rattle.entry.proofs.entries.kept_key.Goals as goal

pub returns : goal.returns
returns c =
    let key = c.args.key.now in
    rw c.copy_from_slice.ensures.after (kept 0 (λ i. get_or key i 0) 32 (length key) key refl c.requires (λ j h. refl))
