use Rattle.bus.proofs.BusLaws.{next_long_is}
use Rattle.bus.proofs.next_long.Goals as goal

pub returns : goal.returns
returns c = search next_long_is
