use Rattle.reach.proofs.ReachLaws.{up_to_short, up_to_all}
use Rattle.reach.proofs.up_to.Goals as goal

pub returns-then-short-clause-value : goal.returns-then-short-clause-value
returns-then-short-clause-value c = search up_to_short

pub returns-clause-value : goal.returns-clause-value
returns-clause-value c = search up_to_all
