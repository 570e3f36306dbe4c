use Rattle.operand.proofs.OperandLaws.{source_registers, source_value}
use Rattle.operand.proofs.source.Goals as goal

pub returns-clause-value : goal.returns-clause-value
returns-clause-value c = search source_value

pub returns-clause-r_after : goal.returns-clause-r_after
returns-clause-r_after c = search source_registers
