use Rattle.std.proofs.Common.{rules}
use Rattle.blocks.proofs.StoringLaws.{noted_sized, sized_room}
use Rattle.blocks.proofs.store_part.Goals as goal

pub store_sized-requires : goal.store_sized-requires
store_sized-requires c = (search rules, search (sized_room, rules))

pub returns-then-on-clause-noted : goal.returns-then-on-clause-noted
returns-then-on-clause-noted c = search (noted_sized, rules)
