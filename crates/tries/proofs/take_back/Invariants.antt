use Rattle.bus.specs.Bus.{board_of}
use Rattle.tries.proofs.TryLaws.{Backing}
use Rattle.tries.proofs.take_back.Given as goal

abbrev pub invariant-loop-n : goal.invariant-loop-n
invariant-loop-n l =
    Backing (board_of l.win l.rom) l.old l.steps l.fn.slots l.fn.memory l.journal l.fn.mark l.slots l.memory l.at l.n
