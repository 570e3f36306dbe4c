use Rattle.multiply_divide.proofs.ResultLaws.{divide_signed_is, divide_signed_zero, dividend_bound, divisor_some}
use Rattle.multiply_divide.proofs.divide_signed.Goals as goal

pub returns-then-none : goal.returns-then-none
returns-then-none c = search divide_signed_zero

pub divide-d-requires : goal.divide-d-requires
divide-d-requires c = (search dividend_bound, search divisor_some)

pub returns : goal.returns
returns c = search divide_signed_is
