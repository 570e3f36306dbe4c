use Rattle.multiply_divide.proofs.ResultLaws.{multiply_signed_is}
use Rattle.multiply_divide.proofs.multiply_signed.Goals as goal

pub returns : goal.returns
returns c = search multiply_signed_is
