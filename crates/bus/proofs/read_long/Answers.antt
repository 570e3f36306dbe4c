use Rattle.bus.proofs.BusLaws.{long_inside, long_is}
use Rattle.bus.proofs.read_long.Goals as goal

pub returns-then-plain : goal.returns-then-plain
returns-then-plain c = search long_inside

pub returns : goal.returns
returns c = search long_is
