-- `rate::advance` meets its contract: each of its returns is a case of `Advanced`.
use Rattle.std.proofs.Common.{rules}
use Rattle.rate.specs.Waits.Advanced.{answered, ended, read, broken}
use Rattle.rate.proofs.advance.Goals as goal

pub returns-in_err-hand_out-clause-advanced : goal.returns-in_err-hand_out-clause-advanced
returns-in_err-hand_out-clause-advanced g c = search (rules, broken)

pub returns-then-turn-ne0-clause-advanced : goal.returns-then-turn-ne0-clause-advanced
returns-then-turn-ne0-clause-advanced g c = search (rules, answered)

pub returns-then-state-clause-advanced : goal.returns-then-state-clause-advanced
returns-then-state-clause-advanced g c = search (rules, ended)

pub returns-in_err-refill-clause-advanced : goal.returns-in_err-refill-clause-advanced
returns-in_err-refill-clause-advanced g c = search (rules, broken)

pub returns-clause-advanced : goal.returns-clause-advanced
returns-clause-advanced g c = search (rules, read)
