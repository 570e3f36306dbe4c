use Rattle.std.proofs.Common.{rules}
use Rattle.keeping.proofs.CallLaws.{step_may, step_promised, step_refused_promised}
use Rattle.keeping.proofs.step_keeping.Goals as goal

pub returns-in-Err : goal.returns-in-Err
returns-in-Err c = search (step_refused_promised, rules)

pub step_taken-requires : goal.step_taken-requires
step_taken-requires c =
    let q = step_may _ _ _ _ 0 _ _ _ c.judge_step.ensures _ c.in_default.is in
    (q.0, q.1, search rules, q.2)

pub returns : goal.returns
returns c = search (step_promised, rules)
