use Rattle.control.proofs.ControlLaws.{jump_subroutine_is}
use Rattle.control.proofs.jump_subroutine.Goals as goal

pub returns : goal.returns
returns c = search jump_subroutine_is
