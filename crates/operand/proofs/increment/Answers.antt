use Rattle.bits.proofs.BitsLaws.{by_size_long, by_size_word}
use Rattle.operand.proofs.OperandLaws.{increment_byte}
use Rattle.operand.specs.Operands.{increment}
use Rattle.operand.proofs.increment.Goals as goal

pub returns-then-byte : goal.returns-then-byte
unfolding increment
returns-then-byte c = search increment_byte

pub returns-then-word : goal.returns-then-word
unfolding increment
returns-then-word c = search by_size_word

pub returns : goal.returns
unfolding increment
returns c = search by_size_long
