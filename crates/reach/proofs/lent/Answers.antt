use Rattle.reach.proofs.ReachLaws.{shows_all, shows_window}
use Rattle.reach.proofs.lent.Goals as goal

pub returns-then-sup : goal.returns-then-sup
returns-then-sup c = search shows_all

pub returns : goal.returns
returns c = search shows_window
