use Rattle.bus.proofs.BusLaws.{byte_free, byte_not_free, byte_flow_failed}
use Rattle.bus.proofs.room_byte.Goals as goal

pub returns-then-free : goal.returns-then-free
returns-then-free c = search byte_free

pub returns-then-clean : goal.returns-then-clean
returns-then-clean c = search byte_not_free

pub returns : goal.returns
returns c = search byte_flow_failed
