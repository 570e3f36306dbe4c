use Rattle.bits.proofs.BitsLaws.{case_at, case_past}
use Rattle.alu.specs.Alu.{bit_changed}
use Rattle.alu.proofs.bit_changed.Goals as goal

pub returns-in-0 : goal.returns-in-0
unfolding bit_changed
returns-in-0 c = search case_at

pub returns-in-1 : goal.returns-in-1
unfolding bit_changed
returns-in-1 c = search case_at

pub returns-in-2 : goal.returns-in-2
unfolding bit_changed
returns-in-2 c = search case_at

pub returns-in_default : goal.returns-in_default
unfolding bit_changed
returns-in_default c = search (case_past, c.in_default.in_default-own.rest)
