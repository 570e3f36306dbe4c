use Rattle.std.proofs.Common.{rules}
use Rattle.keeping.proofs.CallLaws.{run_may, run_promised, run_refused_promised}
use Rattle.keeping.proofs.run_keeping.Goals as goal

pub returns-in-Err : goal.returns-in-Err
returns-in-Err c = search (run_refused_promised, rules)

pub running-requires : goal.running-requires
running-requires c =
    let q = run_may _ _ _ _ 0 _ _ _ c.judge_run.ensures _ c.in_default.is in
    (q.0, q.1, search rules, q.2, q.3)

pub returns : goal.returns
returns c = search (run_promised, rules)
