-- Steps.antt - one whole step: board, slots and memory before and a request give slots, memory and the event. It follows [01 One step].
-- Its clocks stand behind it: `step_clocks`. Not modelled: prefetch, bus cycles, the edge of level 7.
-- Laws: proofs/StepLaws.antt, proofs/ClockLaws.antt, proofs/LargestLaws.antt.  Source: [003 4.1], [003 4.4.2], [003 4.4.8], [003 D], [01 One step], [K2], [K7], [K10].
use Rattle.std.specs.Prelude.{ℕ, ◌+◌, ◌*◌, ◌%◌, ◌/◌, Bool, ◌&&◌, ◌||◌, not, List, ltb, eqb}
use Rattle.codes.specs.Codes.{Running, Halted, Mask, Supervisor, TopLevel, IllegalInstruction, PrivilegeViolation, TraceVector, Line1010, Line1111}
use Rattle.codes.specs.Codes.{NoVector, StopCode, NoEvent, HaltEvent, NoWrite}
use Rattle.bits.specs.Bits.{pick, bit}
use Rattle.bus.specs.declared.Flow.{Flow}
use Rattle.bus.specs.Bus.{Board}
use Rattle.bus.specs.Bus.{View, seen_by, next_word, room, put_sized, fault_vector}
use Rattle.plan.specs.declared.Plan.{Plan}
use Rattle.movem.specs.Movem.{block_room, block_put}
use Rattle.bank.specs.Bank.{pc_of, sr_of, mode_of, supervisor, tracing, bank, settle}
use Rattle.exception.specs.Exceptions.{Stepped, fresh, supervisor_sr, exception, fault}
use Rattle.clocks.specs.Tables.{interrupt_line, stopped_clocks}
use Rattle.clocks.specs.Clocks.{exception_clocks}
use Rattle.execute.specs.Dispatch.{execute, own_clocks}
use Rattle.step.specs.declared.Tried.{Tried}

-- the plan with another flow  [ours]
abbrev pub plan_with_flow : Plan → Flow → Plan
plan_with_flow p f = record { write = p.write; at = p.at; value = p.value; vector = p.vector; flow = f }

-- a write needs room: else it is the fault of its first failing word  [01 step 6] [01 step 7]
unfoldable pub checked : View → Plan → Plan
checked v p =
    pick (eqb p.write NoWrite) p
    (pick (ltb p.write NoWrite) (plan_with_flow p (room v p.at p.write p.flow)) (plan_with_flow p (block_room v p)))

-- an operation word and its instruction, up to its writes: the registers, and what it tried  [ours]
pub record Attempt : Type 0 where
  pub r : List ℕ
  pub t : Tried

-- the operation word is read, then all that its instruction does but its write; and its clocks, if it takes no exception  [01 step 6] [K2]
unfoldable pub attempt : List ℕ → View → Flow → Attempt
attempt r v f =
    let w = next_word v f in
    let d = execute r v w.value w.flow in
    record { r = d.r; t = record { op = w.value; p = checked v d.p; clocks = own_clocks r v w.value w.flow } }

-- the write of a plan that has one  [01 step 6]
unfoldable pub commit : List ℕ → List ℕ → Plan → List ℕ
commit m r p = pick (ltb p.write NoWrite) (put_sized m p.at p.write p.value) (block_put m r p)

-- the vector of a plan's trap, or none: a stop is no trap  [01 step 2]
unfoldable pub trap_of : Plan → ℕ
trap_of p = pick (ltb p.vector StopCode) p.vector NoVector

-- the exception of a vector, and nothing where there is none  [ours]
unfoldable pub take_trap : List ℕ → List ℕ → ℕ → Stepped
take_trap s m vec = pick (ltb NoVector vec) (exception s m vec (supervisor_sr (sr_of s))) (record { s = s; m = m; event = NoEvent })

-- trace follows if T was 1 at the start, unless the instruction was refused or the machine halted  [003 4.4.8] [01 step 5]
unfoldable pub traced : ℕ → Bool → ℕ → ℕ
traced vec trace event = bit (trace && not (eqb vec IllegalInstruction || eqb vec PrivilegeViolation || eqb vec Line1010 || eqb vec Line1111) && not (eqb event HaltEvent)) * TraceVector

-- the trap, then the trace, whose "next" is the trap's handler; the first event counts  [003 4.4.8] [01 step 3] [01 step 5]
unfoldable pub both : List ℕ → List ℕ → ℕ → Bool → Stepped
both s m vec trace =
    let a = take_trap s m vec in
    let b = take_trap a.s a.m (traced vec trace a.event) in
    record { s = b.s; m = b.m; event = pick (eqb a.event NoEvent) b.event a.event }

-- an instruction that writes takes no trap; one that takes a trap writes nothing  [01 step 5] [01 step 6]
unfoldable pub carry_out : List ℕ → List ℕ → List ℕ → Plan → Bool → Stepped
carry_out s m r p trace = pick (eqb p.write NoWrite) (both s m (trap_of p) trace) (take_trap s (commit m r p) (pick trace TraceVector NoVector))

-- the end of an instruction; one that faults keeps nothing of its work  [003 4.4.9] [003 4.4.10] [01 step 7]
unfoldable pub conclude : List ℕ → List ℕ → List ℕ → Tried → Stepped
conclude s m r t =
    let p = t.p in
    pick (eqb p.flow.bad 0) (carry_out (settle s r p) m r p (tracing (sr_of s))) (fault s m p.flow.bad t.op)

-- what an instruction sees of memory and ROM, by the S of its start: no instruction that changes S touches memory afterwards  [K7] [K10]
abbrev pub sight : Board → List ℕ → List ℕ → View
sight board s m = seen_by (supervisor (sr_of s)) board m

-- an instruction up to its writes, from the slots  [01 One step] [K7]
abbrev pub begun : Board → List ℕ → List ℕ → Attempt
begun board s m = attempt (bank s) (sight board s m) (fresh (pc_of s) (sr_of s))

-- one instruction  [01 One step]
unfoldable pub instruction : Board → List ℕ → List ℕ → Stepped
instruction board s m = let a = begun board s m in conclude s m a.r a.t

-- S set, T clear, and the mask is the level, once SR is copied  [003 4.4.2] [01 One step]
abbrev pub interrupt_sr : ℕ → ℕ → ℕ
interrupt_sr sr level = Supervisor + level % 8 * Mask + sr % Mask

-- an interrupt: the saved PC is the current one  [003 4.4.2] [01 One step]
unfoldable pub interrupt : List ℕ → List ℕ → ℕ → ℕ → Stepped
interrupt s m level vector = exception s m vector (interrupt_sr (sr_of s) level)

-- level 7, or above the mask: the interrupt; else a machine that does not run changes nothing; else one instruction
-- [003 4.4.2] [003 4.1] [01 One step]
unfoldable pub one_step : Board → List ℕ → List ℕ → ℕ → ℕ → Stepped
one_step board s m level vector =
    pick (eqb level TopLevel || ltb (sr_of s / Mask % 8) level) (interrupt s m level vector)
    (pick (eqb (mode_of s) Running) (instruction board s m) (record { s = s; m = m; event = NoEvent }))

-- ---- clocks

-- of an instruction that met no fault: its own, or those of its trap alone, which are 0 if it halts  [K2]
unfoldable pub trap_clocks : Tried → ℕ → ℕ
trap_clocks t event = pick (eqb (trap_of t.p) NoVector) t.clocks (pick (eqb event HaltEvent) 0 (exception_clocks (trap_of t.p) t.op))

-- of the trace after it, which are 0 if it halts: the mode is that at the end  [K2]
unfoldable pub trace_clocks : Tried → Bool → ℕ → ℕ
trace_clocks t trace mode = pick (eqb (traced (trap_of t.p) (trace && not (eqb mode Halted)) NoEvent) NoVector) 0 (exception_clocks TraceVector t.op)

-- of an instruction by how it ended, the event and the mode then: with no event there was no exception; a fault counts alone, 0 if it halts. The
-- event tells no trace that halts from another, since a trap's comes first; the mode does  [K2]
unfoldable pub ended_clocks : Tried → Bool → ℕ → ℕ → ℕ
ended_clocks t trace event mode =
    pick (eqb event NoEvent) t.clocks
    (pick (eqb t.p.flow.bad 0) (trap_clocks t event + trace_clocks t trace mode)
    (pick (eqb event HaltEvent) 0 (exception_clocks (fault_vector t.p.flow.bad) t.op)))

-- the same from the slots and the memory before it  [K2]
unfoldable pub concluded_clocks : List ℕ → List ℕ → List ℕ → Tried → ℕ
concluded_clocks s m r t = let o = conclude s m r t in ended_clocks t (tracing (sr_of s)) o.event (mode_of o.s)

-- of one instruction  [K2]
unfoldable pub instruction_clocks : Board → List ℕ → List ℕ → ℕ
instruction_clocks board s m = let a = begun board s m in concluded_clocks s m a.r a.t

-- of an interrupt, 0 if it halts  [003 D-14] [K2]
unfoldable pub interrupt_clocks : ℕ → ℕ
interrupt_clocks event = pick (eqb event HaltEvent) 0 interrupt_line

-- of a whole step: an interrupt that is taken, an instruction, or a machine that does not run  [K2]
unfoldable pub step_clocks : Board → List ℕ → List ℕ → ℕ → ℕ → ℕ
step_clocks board s m level vector =
    pick (eqb level TopLevel || ltb (sr_of s / Mask % 8) level) (interrupt_clocks (interrupt s m level vector).event)
    (pick (eqb (mode_of s) Running) (instruction_clocks board s m) stopped_clocks)

-- the largest value of a step: DIVS of a word in memory by an absolute long address, traced  [K2]
abbrev pub most_clocks : ℕ
most_clocks = 204
