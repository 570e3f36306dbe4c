use Rattle.control.proofs.ControlLaws.{return_subroutine_is}
use Rattle.control.proofs.return_subroutine.Goals as goal

pub returns : goal.returns
returns c = search return_subroutine_is
