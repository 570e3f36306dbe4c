use Rattle.alu.proofs.AluLaws.{check_is}
use Rattle.std.proofs.Common.{rules}
use Rattle.alu.proofs.check.Goals as goal

pub returns : goal.returns
returns c = (search check_is, search rules, search rules)
