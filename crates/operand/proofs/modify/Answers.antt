use Rattle.operand.proofs.OperandLaws.{modify_both, modify_registers}
use Rattle.operand.proofs.modify.Goals as goal

pub returns-clause-value : goal.returns-clause-value
returns-clause-value c = search modify_both

pub returns-clause-r_after : goal.returns-clause-r_after
returns-clause-r_after c = search modify_registers
