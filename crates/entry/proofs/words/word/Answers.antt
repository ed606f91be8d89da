-- `entry::words::word` meets its contract: the fold over the bytes is the word. Assumes nothing.
use mathlib.Core.Path.{◌≡◌, ◌∙◌}
use Prim.Native.Nat.{◌%◌}
use Rattle.std.specs.List.{fold}
use Rattle.std.proofs.Common.{rules}
use Rattle.entry.proofs.Keys.{next, word_fold}
use Rattle.entry.proofs.words.word.Goals as goal

pub returns : goal.returns
returns c =
    let h : c.fold.result ≡ fold next (c.args.customer % 4294967296) c.args.key.now = search rules in
    h ∙ word_fold _ _
