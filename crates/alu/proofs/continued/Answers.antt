use Rattle.alu.proofs.AluLaws.{continued_is}
use Rattle.std.proofs.Common.{rules}
use Rattle.alu.proofs.continued.Goals as goal

pub returns : goal.returns
returns c = (search continued_is, search rules, search rules)
