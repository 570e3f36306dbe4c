use Rattle.bus.specs.Bus.{board_of}
use Rattle.tries.proofs.TryLaws.{Trying}
use Rattle.tries.proofs.trying.Given as goal

abbrev pub invariant-loop-n : goal.invariant-loop-n
invariant-loop-n l =
    Trying (board_of l.win l.rom) l.count l.fn.slots l.fn.memory l.fn.journal l.fn.mark l.slots l.memory l.journal l.at l.n
