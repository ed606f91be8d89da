-- `register::sound::look` meets its contract. The invariant: the entries passed are sound, the words so far are theirs, none of
-- them is repeated, and the remainders of their words were met. Assumes nothing.
use mathlib.Core.Path.{◌≡◌}
use mathlib.Core.Bool.{true}
use Rattle.laws.proofs.Lists.{Agreed}
use Rattle.laws.specs.Tests.{all_to}
use Rattle.entry.specs.Entries.{entry_ok, word_of}
use Rattle.register.specs.Registers.{entry_at}
use Rattle.register.proofs.Places.{Met}
use Rattle.register.proofs.sound.look.Given as goal

abbrev pub invariant-loop-i : goal.invariant-loop-i
invariant-loop-i l =
    (all_to (λ j. entry_ok (entry_at l.register j)) l.i ≡ true)
    × Agreed 0 (λ j. word_of (entry_at l.register j)) 512 l.words l.i × Met l.register l.met l.i
