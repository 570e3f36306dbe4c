use Rattle.plan.proofs.PlanLaws.{push_is}
use Rattle.plan.proofs.push.Goals as goal

pub returns : goal.returns
returns c = search push_is
