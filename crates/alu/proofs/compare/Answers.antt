use Rattle.alu.proofs.AluLaws.{compare_is}
use Rattle.std.proofs.Common.{rules}
use Rattle.alu.proofs.compare.Goals as goal

pub returns : goal.returns
returns c = (search compare_is, search rules)
