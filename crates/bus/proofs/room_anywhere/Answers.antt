use Rattle.bus.proofs.BusLaws.{room_anywhere}
use Rattle.bus.proofs.room_anywhere.Goals as goal

pub returns : goal.returns
returns c = search room_anywhere
