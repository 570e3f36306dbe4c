use Rattle.alu.proofs.AluLaws.{bit_operation_is}
use Rattle.std.proofs.Common.{rules}
use Rattle.alu.proofs.bit_operation.Goals as goal

pub returns : goal.returns
returns c = (search bit_operation_is, search rules)
