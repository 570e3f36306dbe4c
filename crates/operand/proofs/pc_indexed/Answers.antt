use Rattle.operand.proofs.OperandLaws.{pc_indexed_is}
use Rattle.operand.proofs.pc_indexed.Goals as goal

pub returns : goal.returns
returns c = search pc_indexed_is
