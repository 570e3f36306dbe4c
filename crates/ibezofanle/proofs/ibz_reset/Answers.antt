use Rattle.block_calls.proofs.CallLaws.{ibz_reset_nine, ibz_reset_held}
use Rattle.ibezofanle.proofs.ibz_reset.Goals as goal

pub returns-then-block-ne-BLOCK_LENGTH : goal.returns-then-block-ne-BLOCK_LENGTH
returns-then-block-ne-BLOCK_LENGTH c = rw c.refused.ensures (ibz_reset_nine _ _ _ c.if-block-ne-BLOCK_LENGTH.true)

pub returns : goal.returns
returns c = ibz_reset_held _ _ _ c.if-block-ne-BLOCK_LENGTH.false _ _ c.reset-a.ensures _ c.put_block.ensures
