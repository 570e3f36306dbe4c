use Rattle.alu.proofs.AluLaws.{concluded_is}
use Rattle.std.proofs.Common.{rules}
use Rattle.alu.proofs.concluded.Goals as goal

pub returns : goal.returns
returns c = (search concluded_is, search rules, search rules)
