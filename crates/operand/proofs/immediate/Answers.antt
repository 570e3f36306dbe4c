use Rattle.operand.proofs.OperandLaws.{immediate_long, immediate_word}
use Rattle.operand.proofs.immediate.Goals as goal

pub returns-then-long : goal.returns-then-long
returns-then-long c = search (immediate_long, immediate_word)

pub returns : goal.returns
returns c = search (immediate_long, immediate_word)
