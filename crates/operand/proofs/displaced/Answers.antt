use Rattle.operand.proofs.OperandLaws.{displaced_is}
use Rattle.operand.proofs.displaced.Goals as goal

pub returns : goal.returns
returns c = search displaced_is
