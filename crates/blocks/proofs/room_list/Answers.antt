use Rattle.bits.proofs.BitsLaws.{turns_again}
use Rattle.movem.proofs.MovemLaws.{spot_end}
use Rattle.blocks.proofs.room_list.Goals as goal

pub loop-preserved : goal.loop-preserved
loop-preserved c = search turns_again

pub returns : goal.returns
returns c = search spot_end
