use Rattle.bus.proofs.BusLaws.{next_word_is}
use Rattle.bus.proofs.next_word.Goals as goal

pub returns-clause-value : goal.returns-clause-value
returns-clause-value c = search next_word_is
