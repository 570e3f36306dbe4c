use Rattle.bits.proofs.BitsLaws.{by_size_byte, by_size_long, by_size_word}
use Rattle.bus.specs.Bus.{read_sized}
use Rattle.bus.proofs.read_sized.Goals as goal

pub returns-then-byte : goal.returns-then-byte
unfolding read_sized
returns-then-byte c = search by_size_byte

pub returns-then-word : goal.returns-then-word
unfolding read_sized
returns-then-word c = search by_size_word

pub returns : goal.returns
unfolding read_sized
returns c = search by_size_long
