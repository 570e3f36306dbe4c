use Rattle.multiply_divide.proofs.ResultLaws.{overflow_is, quotient_is}
use Rattle.multiply_divide.proofs.quotient_result.Goals as goal

pub returns-then-over : goal.returns-then-over
returns-then-over c = search overflow_is

pub returns : goal.returns
returns c = search quotient_is
