use Rattle.operand.proofs.OperandLaws.{predecrement_is}
use Rattle.operand.proofs.predecrement.Goals as goal

pub returns : goal.returns
returns c = search predecrement_is
