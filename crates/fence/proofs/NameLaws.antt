-- NameLaws.antt - the event of a step is the one that its request, its instruction and T name, or a halt: the stacks decide nothing else.
-- Or; plan_event, tried_event, step_event: what is named; step_names: the law. still, tried, interrupted: shorter words for one-step's parts.
-- Uses: bits, bus, plan, bank, exception, step.  Source: [K7], [01 One step].
use Prim.Native.Nat.{ℕ, ◌%◌, ◌/◌}
use native.Mathlib.Omega.{arith}
use mathlib.Core.Path.{◌≡◌, refl, sym, ap, ◌∙◌, subst}
use mathlib.Core.Bool.{Bool, true, false, ◌&&◌, ◌||◌}
use mathlib.Core.List.{List}
use lib.Dec.{ltb, eqb}
use borrow.Author.Tests.{eqb-true, ltb-false}
use Rattle.codes.specs.Codes.{Running, Mask, TopLevel, TraceVector, NoVector, NoEvent, HaltEvent, NoWrite, event_of}
use Rattle.bits.specs.Bits.{pick, minus}
use Rattle.bus.specs.Bus.{Board}
use Rattle.bus.specs.Bus.{all_of, fault_vector}
use Rattle.plan.specs.declared.Plan.{Plan}
use Rattle.bank.specs.Bank.{ssp_of, pc_of, sr_of, mode_of, tracing, bank, settle}
use Rattle.frames.specs.Frames.{small_frame}
use Rattle.exception.specs.Exceptions.{Stepped, fresh, supervisor_sr, halted, enter, small_ready, exception, big_ready, fault_taken, fault}
use Rattle.step.specs.declared.Tried.{Tried}
use Rattle.step.specs.Steps.{sight, Attempt, attempt, commit, trap_of, take_trap, traced, both, carry_out, conclude, instruction, interrupt_sr}
use Rattle.step.specs.Steps.{interrupt, one_step}

-- nothing happened
abbrev pub still : List ℕ → List ℕ → Stepped
still s m = record { s = s; m = m; event = NoEvent }

-- an event is this one, or a halt
pub data Or (x e : ℕ) : Type 0 where
  this : e ≡ x → Or x e
  halts : e ≡ HaltEvent → Or x e

pub none_named : (x e : ℕ) → Or x e → e ≡ NoEvent → x ≡ NoEvent
none_named x e (this h) k = sym h ∙ k
none_named x e (halts h) k = absurd (omega (arith, h, k))

-- what a plan's trap or trace is named: the first of two
abbrev pub plan_event : Plan → Bool → ℕ
plan_event p trace =
    pick (eqb p.write NoWrite && ltb NoVector (trap_of p)) (event_of (trap_of p % 256)) (pick trace (event_of TraceVector) NoEvent)

-- an instruction's: that of its fault, if it met one
abbrev pub tried_event : Tried → Bool → ℕ
tried_event t trace = pick (eqb t.p.flow.bad 0) (plan_event t.p trace) (event_of (fault_vector t.p.flow.bad))

-- ---- exceptions
pick_or : (x : ℕ) (b : Bool) (t u : Stepped) → Or x t.event → Or x u.event → Or x (pick b t u).event
pick_or x true t u h k = h
pick_or x false t u h k = k

exception_or : (s m : List ℕ) (vec sr : ℕ) → Or (event_of (vec % 256)) (exception s m vec sr).event
unfolding exception
exception_or s m vec sr =
    let a = minus (ssp_of s) 6 in
    let n = small_frame m a (sr_of s) (pc_of s) in
    pick_or (event_of (vec % 256)) (small_ready s m vec) (record { s = enter s (all_of n) a vec sr; m = n; event = event_of (vec % 256) })
    (halted s m)
    (this refl) (halts refl)

fault_or : (s m : List ℕ) (bad op : ℕ) → Or (event_of (fault_vector bad)) (fault s m bad op).event
unfolding fault fault_taken
fault_or s m bad op = pick_or (event_of (fault_vector bad)) (big_ready s m bad op) (fault_taken s m bad op) (halted s m) (this refl) (halts refl)

-- ---- a trap, and the trace after it
pub trap_none : (s m : List ℕ) (vec : ℕ) → ltb NoVector vec ≡ false → take_trap s m vec ≡ still s m
unfolding take_trap
trap_none s m vec h = cc

trap_some : (s m : List ℕ) (vec : ℕ) → ltb NoVector vec ≡ true → take_trap s m vec ≡ exception s m vec (supervisor_sr (sr_of s))
unfolding take_trap
trap_some s m vec h = cc

trap_by : (s m : List ℕ) (vec : ℕ) (b : Bool) → ltb NoVector vec ≡ b → Or (pick b (event_of (vec % 256)) NoEvent) (take_trap s m vec).event
trap_by s m vec true h =
    subst (λ (t : Stepped). Or (event_of (vec % 256)) t.event) (sym (trap_some s m vec h)) (exception_or s m vec (supervisor_sr (sr_of s)))
trap_by s m vec false h = this (ap (λ (t : Stepped). t.event) (trap_none s m vec h))

trace_or : (trace : Bool) (s m : List ℕ) → Or (pick trace (event_of TraceVector) NoEvent) (take_trap s m (pick trace TraceVector NoVector)).event
trace_or true s m = trap_by s m TraceVector true refl
trace_or false s m = trap_by s m NoVector false refl

-- an event that is not 0 is the first of two
first_of : (x a b : ℕ) → Or (event_of x) a → Or (event_of x) (pick (eqb a NoEvent) b a)
first_of x a b (this e) = go (eqb a NoEvent) refl
  where
    go : (c : Bool) → eqb a NoEvent ≡ c → Or (event_of x) (pick c b a)
    go true q = absurd (omega (arith, e, eqb-true a NoEvent q))
    go false q = this e
first_of x a b (halts e) = halts (ap (λ (n : ℕ). pick (eqb n NoEvent) b n) e)

traced_none : (trace : Bool) (vec : ℕ) → vec ≡ NoVector → traced vec trace NoEvent ≡ pick trace TraceVector NoVector
unfolding traced
traced_none true vec e = cc
traced_none false vec e = refl

module _ (s m : List ℕ) (vec : ℕ) (trace : Bool) where
  abbrev first : Stepped
  first = take_trap s m vec

  abbrev second : ℕ → Stepped
  second v = take_trap first.s first.m v

  both_is : (both s m vec trace).event ≡ pick (eqb first.event NoEvent) (second (traced vec trace first.event)).event first.event
  unfolding both
  both_is = refl

  both_by : (b : Bool) → ltb NoVector vec ≡ b
      → Or (pick b (event_of (vec % 256)) (pick trace (event_of TraceVector) NoEvent)) (both s m vec trace).event
  both_by true h =
      subst (Or (event_of (vec % 256))) (sym both_is)
      (first_of (vec % 256) first.event (second (traced vec trace first.event)).event (trap_by s m vec true h))
  both_by false h =
      let z : vec ≡ 0 = omega (arith, ltb-false 0 vec h) in
      let q : (both s m vec trace).event ≡ (second (pick trace TraceVector NoVector)).event =
      both_is
      ∙ ap (λ (n : ℕ). pick (eqb n NoEvent) (second (traced vec trace n)).event n) (ap (λ (t : Stepped). t.event) (trap_none s m vec h))
      ∙ ap (λ (v : ℕ). (second v).event) (traced_none trace vec z) in
      subst (Or (pick trace (event_of TraceVector) NoEvent)) (sym q) (trace_or trace first.s first.m)

-- ---- the end of an instruction
module _ (s m r : List ℕ) (p : Plan) (trace : Bool) where
  pub carry_out_none : eqb p.write NoWrite ≡ true → carry_out s m r p trace ≡ both s m (trap_of p) trace
  unfolding carry_out
  carry_out_none h = cc

  pub carry_out_write : eqb p.write NoWrite ≡ false → carry_out s m r p trace ≡ take_trap s (commit m r p) (pick trace TraceVector NoVector)
  unfolding carry_out
  carry_out_write h = cc

  carry_out_by : (b : Bool) → eqb p.write NoWrite ≡ b
      → Or (pick (b && ltb NoVector (trap_of p)) (event_of (trap_of p % 256)) (pick trace (event_of TraceVector) NoEvent))
      (carry_out s m r p trace).event
  carry_out_by true h =
      let x = pick (ltb NoVector (trap_of p)) (event_of (trap_of p % 256)) (pick trace (event_of TraceVector) NoEvent) in
      subst (λ (t : Stepped). Or x t.event)
      (sym (carry_out_none h)) (both_by s m (trap_of p) trace (ltb NoVector (trap_of p)) refl)
  carry_out_by false h =
      subst (λ (t : Stepped). Or (pick trace (event_of TraceVector) NoEvent) t.event) (sym (carry_out_write h))
      (trace_or trace s (commit m r p))

module _ (s m r : List ℕ) (t : Tried) where
  pub conclude_fine : eqb t.p.flow.bad 0 ≡ true → conclude s m r t ≡ carry_out (settle s r t.p) m r t.p (tracing (sr_of s))
  unfolding conclude
  conclude_fine h = cc

  conclude_faults : eqb t.p.flow.bad 0 ≡ false → conclude s m r t ≡ fault s m t.p.flow.bad t.op
  unfolding conclude
  conclude_faults h = cc

  conclude_by : (b : Bool) → eqb t.p.flow.bad 0 ≡ b
      → Or (pick b (plan_event t.p (tracing (sr_of s))) (event_of (fault_vector t.p.flow.bad))) (conclude s m r t).event
  conclude_by true h =
      subst (λ (x : Stepped). Or (plan_event t.p (tracing (sr_of s))) x.event) (sym (conclude_fine h))
      (carry_out_by (settle s r t.p) m r t.p (tracing (sr_of s)) (eqb t.p.write NoWrite) refl)
  conclude_by false h =
      subst (λ (x : Stepped). Or (event_of (fault_vector t.p.flow.bad)) x.event) (sym (conclude_faults h))
      (fault_or s m t.p.flow.bad t.op)

-- ---- a step
-- the attempt of an instruction
abbrev pub tried : Board → List ℕ → List ℕ → Attempt
tried board s m = attempt (bank s) (sight board s m) (fresh (pc_of s) (sr_of s))

-- whether the request is taken
abbrev pub interrupted : List ℕ → ℕ → Bool
interrupted s level = eqb level TopLevel || ltb (sr_of s / Mask % 8) level

-- what a step names: an interrupt's vector, nothing where the machine is stopped, else its instruction's
abbrev pub step_event : Board → List ℕ → List ℕ → ℕ → ℕ → ℕ
step_event board s m level vec =
    pick (interrupted s level) (event_of (vec % 256)) (pick (eqb (mode_of s) Running) (tried_event (tried board s m).t (tracing (sr_of s))) NoEvent)

module _ (board : Board) (s m : List ℕ) (level vec : ℕ) where
  step_interrupts : interrupted s level ≡ true → one_step board s m level vec ≡ exception s m vec (interrupt_sr (sr_of s) level)
  unfolding one_step interrupt
  step_interrupts h = cc

  pub step_stands : interrupted s level ≡ false → eqb (mode_of s) Running ≡ false → one_step board s m level vec ≡ still s m
  unfolding one_step
  step_stands h k = cc

  pub step_works : interrupted s level ≡ false → eqb (mode_of s) Running ≡ true
      → one_step board s m level vec ≡ conclude s m (tried board s m).r (tried board s m).t
  unfolding one_step instruction
  step_works h k = cc

  step_by : (b c : Bool) → interrupted s level ≡ b → eqb (mode_of s) Running ≡ c
      → Or (pick b (event_of (vec % 256)) (pick c (tried_event (tried board s m).t (tracing (sr_of s))) NoEvent))
      (one_step board s m level vec).event
  step_by true c h k =
      subst (λ (x : Stepped). Or (event_of (vec % 256)) x.event) (sym (step_interrupts h)) (exception_or s m vec (interrupt_sr (sr_of s) level))
  step_by false true h k =
      subst (λ (x : Stepped). Or (tried_event (tried board s m).t (tracing (sr_of s))) x.event) (sym (step_works h k))
      (conclude_by s m (tried board s m).r (tried board s m).t (eqb (tried board s m).t.p.flow.bad 0) refl)
  step_by false false h k = this (ap (λ (x : Stepped). x.event) (step_stands h k))

  -- the event of a step is the one that it names, or a halt
  pub step_names : Or (step_event board s m level vec) (one_step board s m level vec).event
  step_names = step_by (interrupted s level) (eqb (mode_of s) Running) refl refl
