-- Tries.antt - the pattern tryer: a window is set, and steps with level 0 are taken up to a number of steps, the first exception or a refusal;
-- and all of it taken back, the old window too. It keeps all records.
-- Not here: what a step or an undo is (Calls.antt of the crate calls). Laws: proofs/.  Source: [K7], [K10].
use Rattle.std.specs.Prelude.{ℕ, zero, suc, ◌+◌, ◌-◌, List, length, ltb, eqb}
use Rattle.codes.specs.Codes.{Halted, MostSteps, NoEvent, HaltEvent}
use Rattle.bits.specs.Bits.{pick}
use Rattle.bus.specs.declared.Window.{Window}
use Rattle.bus.specs.Bus.{Board}
use Rattle.bank.specs.Bank.{sr_of, mode_of, supervisor}
use Rattle.calls.specs.declared.Manner.TheVariants.{Keeping}
use Rattle.calls.specs.Calls.{no_room, first_tests, step_call, undo_call}
use Rattle.tries.specs.declared.TryAnswer.{TryAnswer}
use Rattle.tries.specs.declared.BackAnswer.{BackAnswer}

-- ---- why a try ended

-- its steps are done  [K7]
abbrev pub spent : ℕ
spent = 1

-- it started in supervisor state, and no step was taken  [K7]
abbrev pub supervised : ℕ
supervised = 2

-- its last step took an exception  [K7]
abbrev pub taken_exception : ℕ
taken_exception = 3

-- its last step halted  [K7]
abbrev pub halt : ℕ
halt = 4

-- a step was refused  [K7]
abbrev pub refused : ℕ
refused = 5

-- ---- a try

-- slots, memory and journal after a try, and its answer  [ours]
pub record TryCall : Type 0 where
  pub s : List ℕ
  pub m : List ℕ
  pub j : List ℕ
  pub a : TryAnswer

-- a try that ends, with n steps done: why, the refusal's number, the vector  [K7]
abbrev pub ended : ℕ → ℕ → ℕ → ℕ → List ℕ → List ℕ → List ℕ → ℕ → TryCall
ended end number vector n s m j mark =
    record { s = s; m = m; j = j; a = record { end = end; number = number; vector = vector; steps = n; mark = mark } }

-- the same by the event of its last step: a halt, or the vector that was taken first  [K7]
abbrev pub ended_by : ℕ → ℕ → List ℕ → List ℕ → List ℕ → ℕ → TryCall
ended_by event n s m j mark =
    pick (eqb event HaltEvent) (ended halt 0 0 n s m j mark) (ended taken_exception 0 (event - 1) n s m j mark)

-- what is left of a try, k steps of it, with n done: a step with level 0 that takes no exception is followed by the next  [K7]
unfoldable pub trying : Board → ℕ → ℕ → List ℕ → List ℕ → List ℕ → ℕ → TryCall
trying board zero n s m j mark = ended spent 0 0 n s m j mark
trying board (suc k) n s m j mark =
    let t = step_call Keeping board s m 0 0 j mark in
    pick (eqb t.a.number 0)
    (pick (eqb t.a.event NoEvent)
    (trying board k (n + 1) t.s t.m t.j t.a.mark)
    (ended_by t.a.event (n + 1) t.s t.m t.j t.a.mark))
    (ended refused t.a.number 0 n s m j mark)

-- the refusals of its first step, with 3 for a count above a run's: 1, 12, 2, 10 and 3 to 6, or 0  [K7] [K10] [01 Calls, table]
unfoldable pub try_number : Board → List ℕ → List ℕ → ℕ → List ℕ → ℕ → ℕ
try_number board s m count j mark =
    first_tests board s m
    (pick (ltb MostSteps count) 3
    (pick (ltb (length j) mark) 4
    (pick (no_room Keeping j mark) 5
    (pick (eqb (mode_of s) Halted) 6 0))))

-- a whole try: the refusals of its first step come first, then a start in supervisor state, then the steps  [K7]
unfoldable pub try_call : Board → List ℕ → List ℕ → ℕ → List ℕ → ℕ → TryCall
try_call board s m count j mark =
    let n = try_number board s m count j mark in
    pick (eqb n 0)
    (pick (supervisor (sr_of s)) (ended supervised 0 0 0 s m j mark) (trying board count 0 s m j mark))
    (ended refused n 0 0 s m j mark)

-- ---- taking back

-- slots and memory after it, and its answer: it only reads the journal  [ours]
pub record BackCall : Type 0 where
  pub s : List ℕ
  pub m : List ℕ
  pub a : BackAnswer

-- what is left of taking back, k undos of it, with n done: all of them, and the old window; or up to the first that is refused, and the
-- window stays  [K7]
unfoldable pub backing : Board → Window → ℕ → ℕ → List ℕ → List ℕ → List ℕ → ℕ → BackCall
backing board old zero n s m j mark = record { s = s; m = m; a = record { number = 0; undone = n; mark = mark; lo = old.lo; hi = old.hi } }
backing board old (suc k) n s m j mark =
    let u = undo_call board s m j mark in
    pick (eqb u.a.number 0)
    (backing board old k (n + 1) u.s u.m j u.a.mark)
    (record { s = s; m = m; a = record { number = u.a.number; undone = n; mark = mark; lo = board.window.lo; hi = board.window.hi } })

-- so many steps taken back  [K7]
abbrev pub back_call : Board → Window → List ℕ → List ℕ → List ℕ → ℕ → ℕ → BackCall
back_call board old s m j mark steps = backing board old steps 0 s m j mark
