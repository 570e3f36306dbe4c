use Rattle.part.proofs.PartLaws.{found_refused, found_in_memory, found_in_rom, where_beyond, where_below}
use Rattle.part.proofs.find.Goals as goal
use Rattle.part.proofs.find.Goals.{else-start-address-via-then-start-address+else-lies-2, else-start-address-via-else-start-address}

pub returns-in_err-judge_reset : goal.returns-in_err-judge_reset
returns-in_err-judge_reset c = found_refused _ _ _ _ _ c.judge_reset.ensures _ _ (cc) c.from_residual.ensures.1

pub returns-then-lies : goal.returns-then-lies
returns-then-lies c = found_in_memory _ _ _ _ c.in_ok-judge_reset.ensures _ c.if-lies.ensures c.part_of.ensures

pub returns-then-lies-2 : goal.returns-then-lies-2
returns-then-lies-2 c = found_in_rom _ _ _ _ c.in_ok-judge_reset.ensures c.if-lies.ensures _ c.if-start-address.true c.if-lies-2.ensures c.part_of-then-lies-2.ensures

pub returns : goal.returns
returns c = elim c.else-start-address.branch [
  | else-start-address-via-then-start-address+else-lies-2 w ↦ where_beyond c.args.memory c.args.rom _ _ c.in_ok-judge_reset.ensures c.if-lies.ensures w.if-start-address.true w.if-lies-2.ensures
  | else-start-address-via-else-start-address w ↦ where_below c.args.memory c.args.rom _ _ c.in_ok-judge_reset.ensures c.if-lies.ensures w.if-start-address.false
]
