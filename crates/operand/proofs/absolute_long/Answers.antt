use Rattle.operand.proofs.OperandLaws.{absolute_long_is}
use Rattle.operand.proofs.absolute_long.Goals as goal

pub returns : goal.returns
returns c = search absolute_long_is
