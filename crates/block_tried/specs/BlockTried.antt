-- BlockTried.antt - ibz_try and ibz_take_back on what the host keeps, and all of a try taken back.
-- Not here: what the two calls are (Tries.antt of the crate block_calls).
-- Laws: proofs/BlockTriedLaws.antt.  Source: [K1], [K7].
use Rattle.std.specs.Prelude.{ℕ}
use Rattle.bus.specs.declared.Window.{Window}
use Rattle.tries.specs.declared.TryAnswer.{TryAnswer}
use Rattle.tries.specs.declared.BackAnswer.{BackAnswer}
use Rattle.block_calls.specs.Calls.{OnBlock}
use Rattle.block_calls.specs.History.{Box}
use Rattle.block_calls.specs.Tries.{ibz_try, ibz_back}

-- ibz_try, given all that the host keeps, the window the try's  [K1] [K7]
abbrev pub ibz_trying : ℕ → Box → OnBlock TryAnswer
ibz_trying count x = ibz_try x.block x.board x.memory count x.journal x.mark

-- ibz_take_back of all of it, with what the try left and answered, and an old window  [K1] [K7]
abbrev pub ibz_backing : Window → ℕ → Box → OnBlock BackAnswer
ibz_backing old count x =
    let t = ibz_trying count x in ibz_back t.b x.board t.m t.j t.a.mark t.a.steps old

-- block, memory and mark as before the try, as many steps undone as it took, and the old window; the journal as the try left it  [K7]
abbrev pub ibz_taken_back : Window → ℕ → Box → OnBlock BackAnswer
ibz_taken_back old count x =
    let t = ibz_trying count x in
    record { b = x.block; m = x.memory; j = t.j; a = record { number = 0; undone = t.a.steps; mark = x.mark; lo = old.lo; hi = old.hi } }
