use Rattle.bus.proofs.BusLaws.{byte_inside, byte_elsewhere, byte_when_failed}
use Rattle.bus.proofs.read_byte.Goals as goal

pub returns-then-inside-clause-value : goal.returns-then-inside-clause-value
returns-then-inside-clause-value c = search byte_inside

pub returns-else-inside-clause-value : goal.returns-else-inside-clause-value
returns-else-inside-clause-value c = search byte_elsewhere

pub returns-else-clean-clause-value : goal.returns-else-clean-clause-value
returns-else-clean-clause-value c = search byte_when_failed
