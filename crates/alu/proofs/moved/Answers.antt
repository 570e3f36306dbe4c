use Rattle.alu.proofs.AluLaws.{moved_is}
use Rattle.std.proofs.Common.{rules}
use Rattle.alu.proofs.moved.Goals as goal

pub returns : goal.returns
returns c = (search moved_is, search rules)
