use Rattle.integer.specs.Integer.{alone}
use Rattle.integer.proofs.IntegerLaws.{replaced_is}
use Rattle.integer.proofs.alone.Goals as goal

pub returns : goal.returns
unfolding alone
returns c = search replaced_is
