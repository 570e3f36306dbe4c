use Rattle.control.proofs.ControlLaws.{displacement_byte, displacement_word}
use Rattle.control.proofs.displacement.Goals as goal

pub returns-then-none : goal.returns-then-none
returns-then-none c = search displacement_word

pub returns : goal.returns
returns c = search displacement_byte
