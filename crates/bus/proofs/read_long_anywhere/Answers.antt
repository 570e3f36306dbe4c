use Rattle.bus.proofs.BusLaws.{long_anywhere}
use Rattle.bus.proofs.read_long_anywhere.Goals as goal

pub returns : goal.returns
returns c = search long_anywhere
