use Rattle.block_calls.proofs.TryLaws.{ibz_back_nine, ibz_back_held}
use Rattle.ibezofanle.proofs.ibz_take_back.Goals as goal

pub returns-then-block-ne-BLOCK_LENGTH : goal.returns-then-block-ne-BLOCK_LENGTH
returns-then-block-ne-BLOCK_LENGTH c = rw c.from.ensures (ibz_back_nine _ _ _ _ _ _ _ c.if-block-ne-BLOCK_LENGTH.true)

pub returns : goal.returns
returns c = ibz_back_held _ _ _ _ _ _ _ c.if-block-ne-BLOCK_LENGTH.false _ _ _ _ c.slots_in-slots.ensures c.take_back-a.ensures _ c.put_block.ensures
