use Rattle.operand.proofs.OperandLaws.{indirect_is}
use Rattle.operand.proofs.indirect.Goals as goal

pub returns : goal.returns
returns c = search indirect_is
