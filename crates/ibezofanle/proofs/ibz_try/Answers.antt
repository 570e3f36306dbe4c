use Rattle.block_calls.proofs.TryLaws.{ibz_try_nine, ibz_try_held}
use Rattle.ibezofanle.proofs.ibz_try.Goals as goal

pub returns-then-block-ne-BLOCK_LENGTH : goal.returns-then-block-ne-BLOCK_LENGTH
returns-then-block-ne-BLOCK_LENGTH c = rw c.refused.ensures (ibz_try_nine _ _ _ _ _ _ c.if-block-ne-BLOCK_LENGTH.true)

pub returns : goal.returns
returns c = ibz_try_held _ _ _ _ _ _ c.if-block-ne-BLOCK_LENGTH.false _ _ _ _ _ c.slots_in-slots.ensures c.try_pattern-a.ensures _ c.put_block.ensures
