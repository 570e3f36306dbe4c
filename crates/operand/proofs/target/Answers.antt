use Rattle.operand.proofs.OperandLaws.{target_place, target_registers}
use Rattle.operand.proofs.target.Goals as goal

pub returns-clause-value : goal.returns-clause-value
returns-clause-value c = search target_place

pub returns-clause-r_after : goal.returns-clause-r_after
returns-clause-r_after c = search target_registers
