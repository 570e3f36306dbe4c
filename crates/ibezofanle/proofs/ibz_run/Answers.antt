use Rattle.block_calls.proofs.CallLaws.{ibz_run_nine, ibz_run_held}
use Rattle.ibezofanle.proofs.ibz_run.Goals as goal

pub returns-then-block-ne-BLOCK_LENGTH : goal.returns-then-block-ne-BLOCK_LENGTH
returns-then-block-ne-BLOCK_LENGTH c = rw c.refused.ensures (ibz_run_nine _ _ _ _ _ _ _ _ c.if-block-ne-BLOCK_LENGTH.true)

pub returns : goal.returns
returns c = ibz_run_held _ _ _ _ _ _ _ _ c.if-block-ne-BLOCK_LENGTH.false _ _ _ _ _ c.slots_in-slots.ensures c.run-a.ensures _ c.put_block.ensures
