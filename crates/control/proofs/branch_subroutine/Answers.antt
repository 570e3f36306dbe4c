use Rattle.control.proofs.ControlLaws.{branch_subroutine_is}
use Rattle.control.proofs.branch_subroutine.Goals as goal

pub returns : goal.returns
returns c = search branch_subroutine_is
