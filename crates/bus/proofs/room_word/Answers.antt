use Rattle.bus.proofs.BusLaws.{odd_flow, word_free, word_not_free, word_flow_failed}
use Rattle.bus.proofs.room_word.Goals as goal

pub returns-then-odd : goal.returns-then-odd
returns-then-odd c = search odd_flow

pub returns-then-free : goal.returns-then-free
returns-then-free c = search word_free

pub returns-then-clean : goal.returns-then-clean
returns-then-clean c = search word_not_free

pub returns : goal.returns
returns c = search word_flow_failed
