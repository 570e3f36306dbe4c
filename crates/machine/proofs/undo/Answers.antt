use Rattle.std.proofs.Common.{rules}
use Rattle.machine.proofs.CallLaws.{undo_promised, undo_refused_promised}
use Rattle.machine.proofs.undo.Goals as goal

pub returns-in-Err : goal.returns-in-Err
returns-in-Err c = search (undo_refused_promised, rules)

pub returns : goal.returns
returns c = search (undo_promised, rules)
