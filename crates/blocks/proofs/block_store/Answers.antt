use Rattle.std.proofs.Common.{rules}
use Rattle.touch.proofs.TouchLaws.{log_order}
use Rattle.blocks.proofs.block_store.Goals as goal

pub above-requires : goal.above-requires
above-requires c = search (rules, log_order)
