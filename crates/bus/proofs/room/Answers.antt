use Rattle.bus.proofs.BusLaws.{room_byte, room_word, room_long}
use Rattle.bus.proofs.room.Goals as goal

pub returns-then-byte : goal.returns-then-byte
returns-then-byte c = search room_byte

pub returns-then-word : goal.returns-then-word
returns-then-word c = search room_word

pub returns : goal.returns
returns c = search room_long
