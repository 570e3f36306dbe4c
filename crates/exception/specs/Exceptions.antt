-- Exceptions.antt - what an exception leaves of slots and memory, and its event.
-- Not modelled: interrupt acknowledge and the levels' own vectors (the host names the vector).
-- Laws: proofs/ExceptionLaws.antt.  Source: [003 4.3.5], [003 4.4.9], [003 4.4.10], [01 step 1], [01 step 7], [01 step 8], [K3].
use Rattle.std.specs.Prelude.{ℕ, ◌+◌, ◌*◌, ◌%◌, Bool, not, ◌&&◌, ◌||◌, List, set, ◌==◌, slice_set}
use Rattle.codes.specs.Codes.{Word, Long, Ssp, Pc, Sr, Mode, Running, Halted, Supervisor, BusError, AddressError, HaltEvent, event_of, DataRead}
use Rattle.bits.specs.Bits.{pick, plus, minus}
use Rattle.bank.specs.Bank.{long, ssp_of, pc_of, sr_of}
use Rattle.bus.specs.declared.Flow.{Flow}
use Rattle.bus.specs.Bus.{View, all_of, read_long, room, fault_vector}
use Rattle.frames.specs.Frames.{small_frame, big_frame}

-- slots and memory, and the event  [ours]
pub record Stepped : Type 0 where
  pub s : List ℕ
  pub m : List ℕ
  pub event : ℕ

-- the flow at an instruction's first word  [ours]
abbrev pub fresh : ℕ → ℕ → Flow
fresh pc sr = record { pc = pc; sr = sr; bad = 0 }

-- S set, T clear  [003 4.3.5] [01 step 1]
abbrev pub supervisor_sr : ℕ → ℕ
supervisor_sr sr = Supervisor + sr % Supervisor

-- a frame that cannot be written whole, or a handler that cannot be entered, halts the machine, and nothing else changes
-- [003 4.4.9.1] [01 step 8] [K3]
abbrev pub halted : List ℕ → List ℕ → Stepped
halted s m = record { s = slice_set s Mode Halted; m = m; event = HaltEvent }

-- the address in a vector: the long at its number times 4  [003 4.3.1] [01 step 1]
unfoldable pub handler : View → ℕ → ℕ
handler v vec = long (read_long v (vec % 256 * 4) DataRead (fresh 0 0)).value

-- vectors 2 and 3: their handlers must be even, others need not be  [K3]
abbrev pub of_fault : ℕ → Bool
of_fault vec = vec % 256 == BusError || vec % 256 == AddressError

-- an odd address in vector 2 or 3 is not gone to  [K3]
unfoldable pub can_enter : View → ℕ → Bool
can_enter v vec = not (of_fault vec && handler v vec % 2 == 1)

-- SSP at the frame, PC from the vector, running  [003 4.3.5] [01 step 1]
unfoldable pub enter : List ℕ → View → ℕ → ℕ → ℕ → List ℕ
enter s v a vec sr = slice_set (slice_set (slice_set (slice_set s Ssp a) Pc (handler v vec)) Sr sr) Mode Running

-- whether the six bytes of a frame can be written: SR, then PC  [01 step 1] [01 step 8]
unfoldable pub small_room : View → ℕ → Bool
small_room v a = (room v (plus a 2) Long (room v a Word (fresh 0 0))).bad == 0

-- whether an exception can be taken: its frame can be written, and the handler, as the vector has it then, can be entered  [01 step 8] [K3]
unfoldable pub small_ready : List ℕ → List ℕ → ℕ → Bool
small_ready s m vec =
    let a = minus (ssp_of s) 6 in
    small_room (all_of m) a && can_enter (all_of (small_frame m a (sr_of s) (pc_of s))) vec

-- the frame is written, then the vector is read  [003 4.3.5] [01 step 1]
unfoldable pub exception : List ℕ → List ℕ → ℕ → ℕ → Stepped
exception s m vec sr =
    let a = minus (ssp_of s) 6 in
    let n = small_frame m a (sr_of s) (pc_of s) in
    pick (small_ready s m vec) (record { s = enter s (all_of n) a vec sr; m = n; event = event_of (vec % 256) }) (halted s m)

-- whether the fourteen bytes of a fault's frame can be written  [01 step 7] [01 step 8]
unfoldable pub big_room : View → ℕ → Bool
big_room v a =
    let g = room v a Long (fresh 0 0) in
    let h = room v (plus a 4) Long g in
    let i = room v (plus a 8) Long h in
    ((room v (plus a 12) Word i).bad == 0)

-- whether a fault can be taken  [01 step 8] [K3]
unfoldable pub big_ready : List ℕ → List ℕ → ℕ → ℕ → Bool
big_ready s m bad op =
    let a = minus (ssp_of s) 14 in
    big_room (all_of m) a && can_enter (all_of (big_frame m a bad op (sr_of s) (plus (pc_of s) 2))) (fault_vector bad)

-- a bus or address error that can be taken, from the slots before the instruction: the saved PC is its address plus 2
-- [003 4.4.9.1] [003 4.4.10] [01 step 7]
unfoldable pub fault_taken : List ℕ → List ℕ → ℕ → ℕ → Stepped
fault_taken s m bad op =
    let a = minus (ssp_of s) 14 in
    let n = big_frame m a bad op (sr_of s) (plus (pc_of s) 2) in
    record { s = enter s (all_of n) a (fault_vector bad) (supervisor_sr (sr_of s)); m = n; event = event_of (fault_vector bad) }

-- a bus or address error  [01 step 7] [01 step 8]
unfoldable pub fault : List ℕ → List ℕ → ℕ → ℕ → Stepped
fault s m bad op = pick (big_ready s m bad op) (fault_taken s m bad op) (halted s m)
