use Rattle.control.proofs.ControlLaws.{branch_is}
use Rattle.control.proofs.branch.Goals as goal

pub returns : goal.returns
returns c = search branch_is
