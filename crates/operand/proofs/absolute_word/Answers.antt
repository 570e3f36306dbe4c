use Rattle.operand.proofs.OperandLaws.{absolute_word_is}
use Rattle.operand.proofs.absolute_word.Goals as goal

pub returns : goal.returns
returns c = search absolute_word_is
