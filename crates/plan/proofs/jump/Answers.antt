use Rattle.plan.proofs.PlanLaws.{jump_odd, jump_when_failed, jump_even}
use Rattle.plan.proofs.jump.Goals as goal

pub returns-then-clean : goal.returns-then-clean
returns-then-clean c = search jump_odd

pub returns-then-odd : goal.returns-then-odd
returns-then-odd c = search jump_when_failed

pub returns : goal.returns
returns c = search jump_even
