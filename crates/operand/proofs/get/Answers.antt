use Rattle.operand.proofs.OperandLaws.{get_inside, get_outside}
use Rattle.operand.proofs.get.Goals as goal

pub returns-then-there : goal.returns-then-there
returns-then-there c = search (get_inside, get_outside)

pub returns-else-there : goal.returns-else-there
returns-else-there c = search (get_inside, get_outside)
