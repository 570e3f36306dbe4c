use Rattle.decimal.proofs.DecimalLaws.{result_is}
use Rattle.decimal.proofs.decimal_result.Goals as goal

pub returns : goal.returns
returns c = search result_is
