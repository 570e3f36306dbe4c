use Rattle.operand.proofs.OperandLaws.{postincrement_is}
use Rattle.operand.proofs.postincrement.Goals as goal

pub returns : goal.returns
returns c = search postincrement_is
