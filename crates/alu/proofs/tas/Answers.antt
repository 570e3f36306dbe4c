use Rattle.alu.proofs.AluLaws.{tas_is}
use Rattle.std.proofs.Common.{rules}
use Rattle.alu.proofs.tas.Goals as goal

pub returns : goal.returns
returns c = (search tas_is, search rules)
