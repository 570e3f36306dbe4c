use Rattle.bus.proofs.BusLaws.{rom_byte_inside, rom_byte_outside}
use Rattle.bus.proofs.rom_byte.Goals as goal

pub returns-then-inside-clause-value : goal.returns-then-inside-clause-value
returns-then-inside-clause-value c = search rom_byte_inside

pub returns-clause-value : goal.returns-clause-value
returns-clause-value c = search rom_byte_outside
