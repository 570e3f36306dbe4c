-- Answers.antt - put_changes: one place written, and then its old value.
use Rattle.std.proofs.Common.{refl}
use Rattle.runs.proofs.PutLaws.{left_room, left_step}
use Rattle.forms.proofs.RecordLaws.{changes_rest}
use Rattle.forms.proofs.put_changes.Goals as goal

pub put_number-p-requires : goal.put_number-p-requires
put_number-p-requires c = left_room _ _ _ c.requires.1 _ _ _ _ _ (changes_rest _ _ c.loop-e-test.true) c.loop-e.invariant

pub put_number-p-requires-in-loop-e : goal.put_number-p-requires-in-loop-e
put_number-p-requires-in-loop-e c =
    let split = changes_rest _ _ c.loop-e-test.true in
    let x = c.put_number-p.ensures in
    left_room _ _ _ c.requires.1 _ _ _ _ _ refl (left_step _ _ _ c.requires.1 _ _ _ _ _ split c.loop-e.invariant _ _ x.next x.bytes)

pub loop-e-preserved : goal.loop-e-preserved
loop-e-preserved c =
    let split = changes_rest _ _ c.loop-e-test.true in
    let x = c.put_number-p.ensures in
    let y = c.put_number-p-in-loop-e.ensures in
    left_step _ _ _ c.requires.1 _ _ _ _ _ refl (left_step _ _ _ c.requires.1 _ _ _ _ _ split c.loop-e.invariant _ _ x.next x.bytes)
    _ _ y.next y.bytes
