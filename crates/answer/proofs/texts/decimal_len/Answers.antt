-- `answer::texts::decimal_len` meets its contract: between two powers of ten the number of digits is one. Assumes nothing.
use native.Mathlib.Omega.{arith}
use Rattle.answer.proofs.Decimals.{digits_are}
use Rattle.answer.proofs.Writers.{one-length}
use Rattle.answer.proofs.texts.decimal_len.Goals as goal

pub returns-in-0-to-9 : goal.returns-in-0-to-9
returns-in-0-to-9 c = (one-length c.args.n (omega arith), omega arith)

pub returns-in-10-to-99 : goal.returns-in-10-to-99
returns-in-10-to-99 c = (digits_are 1 c.args.n (omega arith) (omega arith), omega arith)

pub returns-in-100-to-999 : goal.returns-in-100-to-999
returns-in-100-to-999 c = (digits_are 2 c.args.n (omega arith) (omega arith), omega arith)

pub returns-in-1000-to-9999 : goal.returns-in-1000-to-9999
returns-in-1000-to-9999 c = (digits_are 3 c.args.n (omega arith) (omega arith), omega arith)

pub returns-in-10000-to-99999 : goal.returns-in-10000-to-99999
returns-in-10000-to-99999 c = (digits_are 4 c.args.n (omega arith) (omega arith), omega arith)

pub returns-in-100000-to-999999 : goal.returns-in-100000-to-999999
returns-in-100000-to-999999 c = (digits_are 5 c.args.n (omega arith) (omega arith), omega arith)

pub returns-in-1000000-to-9999999 : goal.returns-in-1000000-to-9999999
returns-in-1000000-to-9999999 c = (digits_are 6 c.args.n (omega arith) (omega arith), omega arith)

pub returns-in-10000000-to-99999999 : goal.returns-in-10000000-to-99999999
returns-in-10000000-to-99999999 c = (digits_are 7 c.args.n (omega arith) (omega arith), omega arith)

pub returns-in-100000000-to-999999999 : goal.returns-in-100000000-to-999999999
returns-in-100000000-to-999999999 c = (digits_are 8 c.args.n (omega arith) (omega arith), omega arith)

pub returns-in_default : goal.returns-in_default
returns-in_default c = (digits_are 9 c.args.n (omega arith) (omega arith), omega arith)
