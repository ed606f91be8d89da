-- `rooms::raw::differed` meets its contract: each step of the sum is small. Assumes nothing.
use Rattle.std.proofs.Common.{rules}
use Rattle.rooms.proofs.Rules.{levels_fit, sum_fits}
use Rattle.rooms.proofs.raw.differed.Goals as goal

pub overflow_sub-value : goal.overflow_sub-value
overflow_sub-value c = search (rules, levels_fit)

pub overflow_add-value : goal.overflow_add-value
overflow_add-value c = search (rules, sum_fits)
