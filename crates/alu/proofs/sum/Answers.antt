use Rattle.alu.proofs.AluLaws.{sum_is}
use Rattle.std.proofs.Common.{rules}
use Rattle.alu.proofs.sum.Goals as goal

pub returns : goal.returns
returns c = (search sum_is, search rules)
