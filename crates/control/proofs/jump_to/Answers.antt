use Rattle.control.proofs.ControlLaws.{jump_is}
use Rattle.control.proofs.jump_to.Goals as goal

pub returns : goal.returns
returns c = search jump_is
