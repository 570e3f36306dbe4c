use Rattle.block_calls.proofs.CallLaws.{ibz_step_nine, ibz_step_held}
use Rattle.ibezofanle.proofs.ibz_step.Goals as goal

pub returns-then-block-ne-BLOCK_LENGTH : goal.returns-then-block-ne-BLOCK_LENGTH
returns-then-block-ne-BLOCK_LENGTH c = rw c.refused.ensures (ibz_step_nine _ _ _ _ _ _ _ _ c.if-block-ne-BLOCK_LENGTH.true)

pub returns : goal.returns
returns c = ibz_step_held _ _ _ _ _ _ _ _ c.if-block-ne-BLOCK_LENGTH.false _ _ _ _ _ c.slots_in-slots.ensures c.step-a.ensures _ c.put_block.ensures
