use Rattle.alu.proofs.AluLaws.{difference_is}
use Rattle.std.proofs.Common.{rules}
use Rattle.alu.proofs.difference.Goals as goal

pub returns : goal.returns
returns c = (search difference_is, search rules)
