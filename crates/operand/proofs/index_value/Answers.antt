use Rattle.operand.proofs.OperandLaws.{index_long, index_word}
use Rattle.operand.proofs.index_value.Goals as goal

pub returns-then-long : goal.returns-then-long
returns-then-long c = search (index_long, index_word)

pub returns : goal.returns
returns c = search (index_long, index_word)
