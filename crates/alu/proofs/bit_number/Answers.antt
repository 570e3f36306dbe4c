use Rattle.alu.proofs.AluLaws.{bit_number_byte, bit_number_long}
use Rattle.std.proofs.Common.{rules}
use Rattle.alu.proofs.bit_number.Goals as goal

pub returns-then-byte : goal.returns-then-byte
returns-then-byte c = (search bit_number_byte, search rules)

pub returns : goal.returns
returns c = (search bit_number_long, search rules)
