use Rattle.blocks.proofs.StoringLaws.{storing_again, storing_memory}
use Rattle.blocks.proofs.store_list.Goals as goal

pub loop-preserved : goal.loop-preserved
loop-preserved c = search storing_again

pub returns-clause-memory : goal.returns-clause-memory
returns-clause-memory c = search storing_memory
