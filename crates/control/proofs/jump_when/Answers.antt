use Rattle.control.proofs.ControlLaws.{jump_left, jump_taken}
use Rattle.control.proofs.jump_when.Goals as goal

pub returns-then-taken : goal.returns-then-taken
returns-then-taken c = search jump_taken

pub returns : goal.returns
returns c = search jump_left
