use Rattle.integer.specs.Integer.{onto}
use Rattle.integer.proofs.IntegerLaws.{replaced_is}
use Rattle.integer.proofs.onto.Goals as goal

pub returns : goal.returns
unfolding onto
returns c = search replaced_is
