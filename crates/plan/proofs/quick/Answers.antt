use Rattle.plan.proofs.PlanLaws.{quick_is}
use Rattle.plan.proofs.quick.Goals as goal

pub returns : goal.returns
returns c = search quick_is
