use Rattle.multiply_divide.proofs.SignedLaws.{low_long_when_negative, low_long_when_not}
use Rattle.multiply_divide.proofs.low_long.Goals as goal

pub returns-then-neg : goal.returns-then-neg
returns-then-neg c = search low_long_when_negative

pub returns : goal.returns
returns c = search low_long_when_not
