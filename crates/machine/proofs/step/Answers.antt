use Rattle.std.proofs.Common.{rules}
use Rattle.machine.proofs.CallLaws.{step_inside, step_may, step_promised, step_torn_promised, step_refused_promised}
use Rattle.machine.proofs.step.Goals as goal

pub returns-in-Err : goal.returns-in-Err
returns-in-Err c = search (step_refused_promised, rules)

pub make_room-room-requires : goal.make_room-room-requires
make_room-room-requires c = step_inside _ _ _ _ 0 _ _ _ c.judge_step.ensures _ c.in_default.is

pub returns-then-room-ne0 : goal.returns-then-room-ne0
returns-then-room-ne0 c = step_torn_promised _ _ _ _ _ _ _ _ c.judge_step.ensures _ c.in_default.is _ _ c.make_room-room.ensures _ c.if-room-ne0.true c.refused-then-room-ne0.ensures

pub step_taken-a-requires : goal.step_taken-a-requires
step_taken-a-requires c =
    let q = step_may _ _ _ _ 0 _ _ _ c.judge_step.ensures _ c.in_default.is _ _ c.make_room-room.ensures c.if-room-ne0.false (λ i. search rules) in
    (q.0, q.1, search rules, q.2)

pub returns : goal.returns
returns c =
    let e = c.step_taken-a.ensures in
    step_promised _ _ _ _ c.args.vector _ _ _ c.judge_step.ensures _ c.in_default.is _ _ c.make_room-room.ensures c.if-room-ne0.false c.wide.result c.wide.ensures.0
    _ _ _ _ e.slots_after e.memory_after e.journal_after e.value
