use Rattle.control.proofs.ControlLaws.{counted_is}
use Rattle.control.proofs.counted.Goals as goal

pub returns : goal.returns
returns c = search counted_is
