-- `answer::texts::put_decimal` meets its contract: one digit, two, or one more behind the digits of the tenth part, which is less.
-- Assumes nothing.
use Rattle.answer.proofs.texts.+put_decimal.Given as goal

abbrev pub decreases-put_decimal : goal.decreases-put_decimal
decreases-put_decimal l = l.n
