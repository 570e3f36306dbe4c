use Rattle.control.proofs.ControlLaws.{decrement_counted, decrement_ended}
use Rattle.control.proofs.decrement_branch.Goals as goal

pub returns-then-ended : goal.returns-then-ended
returns-then-ended c = search decrement_ended

pub returns : goal.returns
returns c = search decrement_counted
