use Rattle.operand.proofs.OperandLaws.{with_index_is}
use Rattle.operand.proofs.with_index.Goals as goal

pub returns : goal.returns
returns c = search with_index_is
