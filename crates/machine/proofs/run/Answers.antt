use Rattle.std.proofs.Common.{rules}
use Rattle.machine.proofs.FirstLaws.{run_may, full_may, run_full_promised, run_alike_promised, run_refused_promised}
use Rattle.machine.proofs.run.Goals as goal

pub returns-in-Err : goal.returns-in-Err
returns-in-Err c = search (run_refused_promised, rules)

pub running-a-requires : goal.running-a-requires
running-a-requires c =
    let q = run_may _ _ _ _ 0 _ _ _ c.judge_run.ensures _ c.in_default.is in
    (q.0, q.1, search rules, q.2, q.3)

-- e: what the first steps ensure
pub running_full-requires-clause-budget_bound : goal.running_full-requires-clause-budget_bound
running_full-requires-clause-budget_bound c =
    let e = c.running-a.ensures in
    full_may _ _ _ _ _ _ _ _ c.judge_run.ensures _ c.in_default.is _ _ _ _ _ _ e.slots_after e.memory_after e.journal_after e.value e.ends

pub returns-then-journal-ge-LONGEST_RECORD : goal.returns-then-journal-ge-LONGEST_RECORD
returns-then-journal-ge-LONGEST_RECORD c =
    let e = c.running-a.ensures in
    let f = c.running_full.ensures in
    run_full_promised _ _ _ _ _ _ _ _ c.judge_run.ensures _ c.in_default.is _ _ _ _ _ _ e.slots_after e.memory_after e.journal_after e.value e.ends c.if-a-eq4.true
    _ _ _ _ f.slots_after f.memory_after f.journal_after f.value

pub returns : goal.returns
returns c =
    let e = c.running-a.ensures in
    run_alike_promised _ _ _ _ _ _ _ _ c.judge_run.ensures _ c.in_default.is _ _ _ _ _ _ e.slots_after e.memory_after e.journal_after e.value e.ends c.else-a-eq4.either
