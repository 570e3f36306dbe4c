use Rattle.operand.proofs.OperandLaws.{put_inside, put_outside}
use Rattle.operand.proofs.put.Goals as goal

pub returns-then-there : goal.returns-then-there
returns-then-there c = search (put_inside, put_outside)

pub returns : goal.returns
returns c = search (put_inside, put_outside)
