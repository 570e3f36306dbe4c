use Rattle.multiply_divide.proofs.ResultLaws.{zero_is}
use Rattle.multiply_divide.proofs.zero_divide.Goals as goal

pub returns : goal.returns
returns c = search zero_is
