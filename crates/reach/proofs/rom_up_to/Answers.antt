use Rattle.reach.proofs.ReachLaws.{up_to_none}
use Rattle.reach.proofs.rom_up_to.Goals as goal

pub returns-clause-value : goal.returns-clause-value
returns-clause-value c = search up_to_none
