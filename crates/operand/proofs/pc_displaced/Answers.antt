use Rattle.operand.proofs.OperandLaws.{pc_displaced_is}
use Rattle.operand.proofs.pc_displaced.Goals as goal

pub returns : goal.returns
returns c = search pc_displaced_is
