use Rattle.operand.proofs.OperandLaws.{put_low_is}
use Rattle.operand.proofs.put_low.Goals as goal

pub returns : goal.returns
returns c = search put_low_is
