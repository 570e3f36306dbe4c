use Rattle.control.proofs.ControlLaws.{return_restore_is}
use Rattle.control.proofs.return_restore.Goals as goal

pub returns : goal.returns
returns c = search return_restore_is
