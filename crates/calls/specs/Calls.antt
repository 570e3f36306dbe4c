-- Calls.antt - reset, step, run and undo: the complete answer of each call, and slots, memory and journal afterwards, for every input.
-- A refusal's number is that of the first line of the call's table that applies; a refused call leaves everything as it was (a refused
-- reset: the fixed state). Window and ROM are set by the host: a reset gives a window, step, run and undo read both, none changes either.
-- Step and run go by a manner: where the journal is full, Dropping drops its oldest records, and Keeping takes no step.
-- Laws: proofs/.  Source: [01 Calls and what they give back], [01 The journal], [K2], [K5], [K7], [K10].
use Rattle.std.specs.Prelude.{ℕ, zero, suc, ◌+◌, ◌-◌, ◌%◌, Bool, true, false, ◌&&◌, ◌||◌, not, Option, Some, None, List, [], ◌∷◌, length, ltb, leb, eqb}
use Rattle.codes.specs.Codes.{Running, Stopped, Halted, ResetStatus, LeastMemory, MostMemory, RomStart, MostRom, TopLevel, MostSteps, NoEvent, DataRead}
use Rattle.bits.specs.Bits.{pick}
use Rattle.bus.specs.declared.Window.{Window}
use Rattle.bus.specs.Bus.{Board, all_of, read_long}
use Rattle.bank.specs.Bank.{long, pc_of, sr_of, mode_of}
use Rattle.exception.specs.Exceptions.{fresh}
use Rattle.step.specs.Steps.{one_step, step_clocks}
use Rattle.numbers.specs.Number.{written}
use Rattle.record.specs.Limits.{longest_record, valid_status}
use Rattle.record.specs.Change.{step_record}
use Rattle.undo.specs.Undo.{undo_of}
use Rattle.oldest.specs.declared.Room.{Room}
use Rattle.oldest.specs.Room.{Way, rows, torn, rows_of, RoomCall, as_it_was, make_room, capped}
use Rattle.calls.specs.declared.Manner.{Manner}
use Rattle.calls.specs.declared.Manner.TheVariants.{Dropping, Keeping}
use Rattle.calls.specs.declared.ResetAnswer.{ResetAnswer}
use Rattle.calls.specs.declared.StepAnswer.{StepAnswer}
use Rattle.calls.specs.declared.RunAnswer.{RunAnswer}
use Rattle.calls.specs.declared.UndoAnswer.{UndoAnswer}

-- refusal 1 is given exactly when this does not hold: an even length, not too short and not too long  [01 Calls, table]
abbrev pub memory_fits : List ℕ → Bool
memory_fits m = eqb (length m % 2) 0 && leb LeastMemory (length m) && leb (length m) MostMemory

-- refusal 2 is given exactly when this does not hold: SR has only the bits of $A71F, and the mode is one of the three  [01 Calls, table]
abbrev pub state_fits : List ℕ → Bool
state_fits s = valid_status (sr_of s) && leb (mode_of s) Halted

-- refusal 12 is given exactly when this does not hold: an even length, not too long, and where there is a ROM no memory past its start  [K10]
abbrev pub rom_fits : List ℕ → List ℕ → Bool
rom_fits rom m = eqb (length rom % 2) 0 && leb (length rom) MostRom && (eqb (length rom) 0 || leb (length m) RomStart)

-- where what a window can show ends: where memory does, or, where there is one, the ROM  [K7] [K10]
abbrev pub window_end : List ℕ → List ℕ → ℕ
window_end rom m = pick (eqb (length rom) 0) (length m) (RomStart + length rom)

-- refusal 10 is given exactly when this does not hold: the window's ends in their order, and none past that end  [K7] [K10]
abbrev pub window_fits : Board → List ℕ → Bool
window_fits board m = leb board.window.lo board.window.hi && leb board.window.hi (window_end board.rom m)

-- what step, run and undo judge first: 1, 12, 2 and 10, or else what is last  [01 Calls, table] [K7] [K10]
unfoldable pub first_tests : Board → List ℕ → List ℕ → ℕ → ℕ
first_tests board s m last =
    pick (not (memory_fits m)) 1
    (pick (not (rom_fits board.rom m)) 12
    (pick (not (state_fits s)) 2
    (pick (not (window_fits board m)) 10 last)))

-- ---- reset

-- SSP from address 0, PC from 4, SR $2700, every other slot 0  [003 4.4.1] [01 Calls, Reset]
abbrev pub reset_slots : List ℕ → List ℕ
reset_slots m =
    0 ∷ 0 ∷ 0 ∷ 0 ∷ 0 ∷ 0 ∷ 0 ∷ 0 ∷ 0 ∷ 0 ∷ 0 ∷ 0 ∷ 0 ∷ 0 ∷ 0 ∷ 0
    ∷ long (read_long (all_of m) 0 DataRead (fresh 0 0)).value ∷ long (read_long (all_of m) 4 DataRead (fresh 0 0)).value ∷ ResetStatus ∷ Running ∷ []

-- a refused reset: halted, and 0 in every other slot  [01 Calls, table]
abbrev pub refused_slots : List ℕ
refused_slots = 0 ∷ 0 ∷ 0 ∷ 0 ∷ 0 ∷ 0 ∷ 0 ∷ 0 ∷ 0 ∷ 0 ∷ 0 ∷ 0 ∷ 0 ∷ 0 ∷ 0 ∷ 0 ∷ 0 ∷ 0 ∷ 0 ∷ Halted ∷ []

-- 1, 12, or 0  [01 Calls, table] [K10]
unfoldable pub reset_number : List ℕ → List ℕ → ℕ
reset_number m rom = pick (not (memory_fits m)) 1 (pick (not (rom_fits rom m)) 12 0)

-- the slots that a reset gives, refused or not  [01 Calls, Reset] [01 Calls, table]
unfoldable pub reset_call : List ℕ → List ℕ → List ℕ
reset_call m rom = pick (eqb (reset_number m rom) 0) (reset_slots m) refused_slots

-- the window that a reset gives: all of memory, with a ROM too, or nothing where it is refused  [K7] [K10]
abbrev pub reset_window : List ℕ → List ℕ → Window
reset_window m rom = record { lo = 0; hi = pick (eqb (reset_number m rom) 0) (length m) 0 }

-- a reset's answer: its number, and the ends of the window  [01 Calls, table] [K7]
unfoldable pub reset_answer : List ℕ → List ℕ → ResetAnswer
reset_answer m rom = record { number = reset_number m rom; lo = (reset_window m rom).lo; hi = (reset_window m rom).hi }

-- ---- room for one more record, in either manner

-- no room can be had. Dropping: the journal is shorter than the longest record altogether. Keeping: fewer bytes than that are free.
-- [K5] [01 Calls, table]
abbrev pub no_room : Manner → List ℕ → ℕ → Bool
no_room Dropping j mark = ltb (length j) longest_record
no_room Keeping j mark = ltb (length j - mark) longest_record

-- whether a record on the way back is not well shaped  [K5]
abbrev pub is_torn : Way → Bool
is_torn (rows rs) = false
is_torn torn = true

-- whether records must be dropped and one of them is not well shaped; a journal with room enough is not judged  [K5]
abbrev pub torn_way : Manner → ℕ → List ℕ → ℕ → Bool
torn_way Dropping len j mark = ltb (length j - mark) longest_record && is_torn (rows_of len j mark)
torn_way Keeping len j mark = false

-- the journal and the mark with room for one more record  [K5] [01 Calls]
abbrev pub room_for : Manner → ℕ → List ℕ → ℕ → RoomCall
room_for Dropping len j mark = make_room len j mark
room_for Keeping len j mark = as_it_was 0 j mark

-- ---- step

-- slots, memory and journal after a step, and its answer  [ours]
pub record StepCall : Type 0 where
  pub s : List ℕ
  pub m : List ℕ
  pub j : List ℕ
  pub a : StepAnswer

-- 1, 12, 2, 10 and 3 to 6, or else what is last  [01 Calls, table] [K5] [K7] [K10]
unfoldable pub step_tests : Manner → Board → List ℕ → List ℕ → ℕ → List ℕ → ℕ → ℕ → ℕ
step_tests w board s m level j mark last =
    first_tests board s m
    (pick (ltb TopLevel level) 3
    (pick (ltb (length j) mark) 4
    (pick (no_room w j mark) 5
    (pick (eqb (mode_of s) Halted) 6 last))))

-- these, 8 where a record on the way back is not well shaped, or 0  [01 Calls, table] [K5]
unfoldable pub step_number : Manner → Board → List ℕ → List ℕ → ℕ → List ℕ → ℕ → ℕ
step_number w board s m level j mark = step_tests w board s m level j mark (pick (torn_way w (length m) j mark) 8 0)

-- one step by the definition, the record that before and after determine, at the mark, and its clocks  [01 One step] [01 The journal] [K2]
unfoldable pub step_taken : Board → List ℕ → List ℕ → ℕ → ℕ → List ℕ → ℕ → StepCall
step_taken board s m level vector j mark =
    let t = one_step board s m level vector in
    let b = step_record s t.s m t.m in
    let answer : StepAnswer = record { number = 0; event = t.event; mark = mark + length b; clocks = step_clocks board s m level vector; moved = 0; dropped = 0 } in
    record { s = t.s; m = t.m; j = written j mark b; a = answer }

-- the same, with what making room moved and dropped  [K5]
abbrev pub in_room : Room → StepCall → StepCall
in_room r t =
    let a = t.a in
    let answer : StepAnswer = record { number = a.number; event = a.event; mark = a.mark; clocks = a.clocks; moved = r.moved; dropped = r.dropped } in
    record { s = t.s; m = t.m; j = t.j; a = answer }

-- a step where there is room, or where room can be made: the room first, then the step's own record  [01 Calls] [K5]
unfoldable pub step_with_room : Manner → Board → List ℕ → List ℕ → ℕ → ℕ → List ℕ → ℕ → StepCall
step_with_room w board s m level vector j mark =
    let r = room_for w (length m) j mark in
    in_room r.a (step_taken board s m level vector r.j r.a.mark)

-- a step, or its refusal, which alters nothing, takes no clocks and moves and drops nothing  [01 Calls] [01 Calls, table] [K2] [K5]
unfoldable pub step_call : Manner → Board → List ℕ → List ℕ → ℕ → ℕ → List ℕ → ℕ → StepCall
step_call w board s m level vector j mark =
    let n = step_number w board s m level j mark in
    let refusal : StepAnswer = record { number = n; event = NoEvent; mark = mark; clocks = 0; moved = 0; dropped = 0 } in
    pick (eqb n 0) (step_with_room w board s m level vector j mark) (record { s = s; m = m; j = j; a = refusal })

-- ---- run

-- slots, memory and journal after a run, and its answer  [ours]
pub record RunCall : Type 0 where
  pub s : List ℕ
  pub m : List ℕ
  pub j : List ℕ
  pub a : RunAnswer

-- 1, 12, 2, 10, 3 and 4, or 0, in either manner  [01 Calls, table] [K7] [K10]
unfoldable pub run_number : Board → List ℕ → List ℕ → ℕ → List ℕ → ℕ → ℕ
run_number board s m budget j mark =
    first_tests board s m
    (pick (ltb MostSteps budget) 3
    (pick (ltb (length j) mark) 4 0))

-- a run ended by a reason, with n steps of c clocks done, v bytes moved and u records dropped  [01 Calls, Run] [K2] [K5]
abbrev pub ended : ℕ → ℕ → ℕ → ℕ → ℕ → List ℕ → List ℕ → List ℕ → ℕ → RunCall
ended reason n c v u s m j mark =
    record { s = s; m = m; j = j; a = record { number = 0; reason = reason; mark = mark; steps = n; clocks = c; moved = capped v; dropped = u } }

-- what is left of a run, k of its budget, with n steps of c clocks done, v bytes moved and u records dropped: the reasons in their order,
-- and a step with level 0, whose clocks, bytes and records are added  [01 Calls, Run] [K2] [K5]
unfoldable pub running : Manner → Board → ℕ → ℕ → ℕ → ℕ → ℕ → ℕ → List ℕ → List ℕ → List ℕ → ℕ → RunCall
running w board zero n c v u stop s m j mark = ended 1 n c v u s m j mark
running w board (suc k) n c v u stop s m j mark =
    let t = step_with_room w board s m 0 0 j mark in
    let rest = running w board k (n + 1) (c + t.a.clocks) (v + t.a.moved) (u + t.a.dropped) stop t.s t.m t.j t.a.mark in
    pick (eqb (mode_of s) Halted) (ended 2 n c v u s m j mark)
    (pick (eqb (mode_of s) Stopped) (ended 3 n c v u s m j mark)
    (pick (no_room w j mark) (ended 4 n c v u s m j mark)
    (pick (torn_way w (length m) j mark) (ended 6 n c v u s m j mark)
    (pick (eqb (pc_of s) stop) (ended 5 n c v u s m j mark) rest))))

-- a run, or its refusal, which alters nothing, takes no clocks and moves and drops nothing  [01 Calls, Run] [01 Calls, table] [K2] [K5]
unfoldable pub run_call : Manner → Board → List ℕ → List ℕ → ℕ → ℕ → List ℕ → ℕ → RunCall
run_call w board s m budget stop j mark =
    let n = run_number board s m budget j mark in
    let refusal : RunAnswer = record { number = n; reason = 0; mark = mark; steps = 0; clocks = 0; moved = 0; dropped = 0 } in
    pick (eqb n 0) (running w board budget 0 0 0 0 stop s m j mark) (record { s = s; m = m; j = j; a = refusal })

-- ---- undo

-- slots and memory after an undo, and its answer: it only reads the journal  [ours]
pub record UndoCall : Type 0 where
  pub s : List ℕ
  pub m : List ℕ
  pub a : UndoAnswer

-- 1, 12, 2, 10, 4 or 7, or 0  [01 Calls, table] [K7] [K10]
unfoldable pub undo_number : Board → List ℕ → List ℕ → List ℕ → ℕ → ℕ
undo_number board s m j mark =
    first_tests board s m
    (pick (ltb (length j) mark) 4
    (pick (eqb mark 0) 7 0))

-- refusal 8 where the last record is not well formed  [01 Calls, table] [01 The journal]
abbrev pub undo_answer : ℕ → Option ℕ → UndoAnswer
undo_answer mark (Some start) = record { number = 0; mark = start }
undo_answer mark None = record { number = 8; mark = mark }

-- an undo, or its refusal, which alters nothing  [01 Calls, table] [01 The journal]
unfoldable pub undo_call : Board → List ℕ → List ℕ → List ℕ → ℕ → UndoCall
undo_call board s m j mark =
    let n = undo_number board s m j mark in
    let u = undo_of s m j mark in
    pick (eqb n 0) (record { s = u.slots; m = u.memory; a = undo_answer mark u.answer }) (record { s = s; m = m; a = record { number = n; mark = mark } })
