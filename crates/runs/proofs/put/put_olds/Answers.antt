-- Answers.antt - put_olds: one old value written.
use Rattle.runs.proofs.PutLaws.{left_room, left_step, olds_rest}
use Rattle.runs.proofs.put.put_olds.Goals as goal

pub put_number-p-requires : goal.put_number-p-requires
put_number-p-requires c = left_room _ _ _ c.requires _ _ _ _ _ (olds_rest _ _ c.loop-e-test.true) c.loop-e.invariant

pub loop-e-preserved : goal.loop-e-preserved
loop-e-preserved c =
    let x = c.put_number-p.ensures in
    left_step _ _ _ c.requires _ _ _ _ _ (olds_rest _ _ c.loop-e-test.true) c.loop-e.invariant _ _ x.next x.bytes
