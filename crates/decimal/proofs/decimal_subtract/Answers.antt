use Rattle.decimal.proofs.DecimalLaws.{subtract_is}
use Rattle.decimal.proofs.decimal_subtract.Goals as goal

pub returns : goal.returns
returns c = search subtract_is
