use Rattle.decimal.proofs.DecimalLaws.{add_is}
use Rattle.decimal.proofs.decimal_add.Goals as goal

pub returns : goal.returns
returns c = search add_is
