use Rattle.bus.proofs.BusLaws.{rom_word_inside, rom_word_outside}
use Rattle.bus.proofs.rom_word.Goals as goal

pub returns-then-inside-clause-value : goal.returns-then-inside-clause-value
returns-then-inside-clause-value c = search rom_word_inside

pub returns-clause-value : goal.returns-clause-value
returns-clause-value c = search rom_word_outside
