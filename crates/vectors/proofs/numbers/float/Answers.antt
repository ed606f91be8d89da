-- `vectors::numbers::float` is safe: a pattern above the infinities is a NaN's and was turned away. Assumes nothing.
use Rattle.vectors.proofs.Patterns.{no_nan}
use Rattle.vectors.proofs.numbers.float.Goals as goal

pub float_from_bits-result : goal.float_from_bits-result
float_from_bits-result c = no_nan c.natural-bits.result c.if-bits-gt2139095040.false
