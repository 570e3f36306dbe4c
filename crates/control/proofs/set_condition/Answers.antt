use Rattle.control.proofs.ControlLaws.{set_condition_is}
use Rattle.control.proofs.set_condition.Goals as goal

pub returns : goal.returns
returns c = search set_condition_is
