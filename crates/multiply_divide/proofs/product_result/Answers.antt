use Rattle.multiply_divide.proofs.ResultLaws.{product_is}
use Rattle.multiply_divide.proofs.product_result.Goals as goal

pub returns : goal.returns
returns c = search product_is
