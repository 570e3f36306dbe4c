use Rattle.clocks.proofs.UnrolledLaws.{moved_long, moved_short}
use Rattle.timing.proofs.moved.Goals as goal

pub returns-then-long : goal.returns-then-long
returns-then-long c = search moved_long

pub returns : goal.returns
returns c = search moved_short
