use Rattle.multiply_divide.proofs.ResultLaws.{divide_unsigned_is, divide_unsigned_zero}
use Rattle.multiply_divide.proofs.divide_unsigned.Goals as goal

pub returns-then-none : goal.returns-then-none
returns-then-none c = search divide_unsigned_zero

pub returns : goal.returns
returns c = search divide_unsigned_is
