use Rattle.std.proofs.Common.{rules}
use Rattle.answers.proofs.NumberLaws.{first_refuses, first_passes}
use Rattle.tries.specs.Tries.{try_number}
use Rattle.tries.proofs.judge_try.Goals as goal

pub returns-in_err-judge_first : goal.returns-in_err-judge_first
unfolding try_number
returns-in_err-judge_first c = first_refuses _ _ _ _ _ c.judge_first.ensures _ _ (cc) c.from_residual.ensures.1

pub returns-then-count-gt-MOST_STEPS : goal.returns-then-count-gt-MOST_STEPS
unfolding try_number
returns-then-count-gt-MOST_STEPS c = search (first_passes, rules)

pub returns-then-journal-mark : goal.returns-then-journal-mark
unfolding try_number
returns-then-journal-mark c = search (first_passes, rules)

pub returns-then-journal-mark-lt-LONGEST_RECORD : goal.returns-then-journal-mark-lt-LONGEST_RECORD
unfolding try_number
returns-then-journal-mark-lt-LONGEST_RECORD c = search (first_passes, rules)

pub returns-then-slots-eq-HALTED : goal.returns-then-slots-eq-HALTED
unfolding try_number
returns-then-slots-eq-HALTED c = search (first_passes, rules)

pub returns : goal.returns
unfolding try_number
returns c = search (first_passes, rules)
