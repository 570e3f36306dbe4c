use Rattle.std.proofs.Common.{rules}
use Rattle.answers.proofs.NumberLaws.{first_refuses, first_passes}
use Rattle.calls.specs.Calls.{step_tests}
use Rattle.answers.proofs.judge_step.Goals as goal

pub returns-in_err-judge_first : goal.returns-in_err-judge_first
unfolding step_tests
returns-in_err-judge_first c = first_refuses _ _ _ _ _ c.judge_first.ensures _ _ (cc) c.from_residual.ensures.1

pub returns-then-level-gt-TOP_LEVEL : goal.returns-then-level-gt-TOP_LEVEL
unfolding step_tests
returns-then-level-gt-TOP_LEVEL c = search (first_passes, rules)

pub returns-then-journal-mark : goal.returns-then-journal-mark
unfolding step_tests
returns-then-journal-mark c = search (first_passes, rules)

pub returns-then-no_room : goal.returns-then-no_room
unfolding step_tests
returns-then-no_room c = search (first_passes, rules)

pub returns-then-slots-eq-HALTED : goal.returns-then-slots-eq-HALTED
unfolding step_tests
returns-then-slots-eq-HALTED c = search (first_passes, rules)

pub returns : goal.returns
unfolding step_tests
returns c = search (first_passes, rules)
