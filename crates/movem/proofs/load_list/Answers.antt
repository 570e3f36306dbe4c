use Rattle.bits.proofs.BitsLaws.{turns_again}
use Rattle.movem.proofs.MovemLaws.{walk_end}
use Rattle.movem.proofs.load_list.Goals as goal

pub loop-preserved : goal.loop-preserved
loop-preserved c = search turns_again

pub returns : goal.returns
returns c = search walk_end
