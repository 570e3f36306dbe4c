use Rattle.bus.proofs.BusLaws.{word_odd, word_inside, word_elsewhere, word_when_failed}
use Rattle.bus.proofs.read_word.Goals as goal

pub returns-then-odd-clause-value : goal.returns-then-odd-clause-value
returns-then-odd-clause-value c = search word_odd

pub returns-then-inside-clause-value : goal.returns-then-inside-clause-value
returns-then-inside-clause-value c = search word_inside

pub returns-else-inside-clause-value : goal.returns-else-inside-clause-value
returns-else-inside-clause-value c = search word_elsewhere

pub returns-else-clean-clause-value : goal.returns-else-clean-clause-value
returns-else-clean-clause-value c = search word_when_failed
