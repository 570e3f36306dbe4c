use Rattle.plan.proofs.PlanLaws.{finish_memory, finish_register}
use Rattle.plan.proofs.finish.Goals as goal

pub returns-then-inside : goal.returns-then-inside
returns-then-inside c = search finish_register

pub returns : goal.returns
returns c = search finish_memory
