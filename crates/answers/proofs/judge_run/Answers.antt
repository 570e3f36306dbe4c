use Rattle.std.proofs.Common.{rules}
use Rattle.answers.proofs.NumberLaws.{first_refuses, first_passes}
use Rattle.calls.specs.Calls.{run_number}
use Rattle.answers.proofs.judge_run.Goals as goal

pub returns-in_err-judge_first : goal.returns-in_err-judge_first
unfolding run_number
returns-in_err-judge_first c = first_refuses _ _ _ _ _ c.judge_first.ensures _ _ (cc) c.from_residual.ensures.1

pub returns-then-budget-gt-MOST_STEPS : goal.returns-then-budget-gt-MOST_STEPS
unfolding run_number
returns-then-budget-gt-MOST_STEPS c = search (first_passes, rules)

pub returns-then-journal-mark : goal.returns-then-journal-mark
unfolding run_number
returns-then-journal-mark c = search (first_passes, rules)

pub returns : goal.returns
unfolding run_number
returns c = search (first_passes, rules)
