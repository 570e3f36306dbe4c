use Rattle.std.proofs.Common.{rules}
use Rattle.tries.proofs.TryLaws.{try_refuses, try_supervised, try_goes}
use Rattle.tries.proofs.try_pattern.Goals as goal

pub returns-in-Err : goal.returns-in-Err
returns-in-Err c = search (try_refuses, rules)

pub returns-then-supervisor : goal.returns-then-supervisor
returns-then-supervisor c = search (try_supervised, rules)

pub returns : goal.returns
returns c = search (try_goes, rules)
