-- StepLaws.antt - one law for each return of the functions of step and one_step, as an equation of whole outcomes where that can be had.
-- slots_by, memory_by, event_by take a part of such an equation.
-- Uses: bits, bus, plan, bank, exception, execute.
use Prim.Native.Nat.{ℕ, ◌*◌, ◌%◌, ◌/◌}
use mathlib.Core.Path.{◌≡◌, sym, ap}
use mathlib.Core.Bool.{Bool, true, false, ◌&&◌, ◌||◌, not}
use mathlib.Core.List.{List}
use lib.Dec.{ltb, eqb}
use borrow.Author.Tests.{eqb-true, not-true}
use Rattle.codes.specs.Codes.{Mask, TopLevel}
use Rattle.bits.specs.Bits.{bit}
use Rattle.bits.proofs.BitsLaws.{and_left, and_right}
use Rattle.bus.specs.declared.Flow.{Flow}
use Rattle.bus.specs.declared.Fetched.{Fetched}
use Rattle.bus.specs.Bus.{View, view_of, seen_by, next_word, room, put_sized}
use Rattle.bus.specs.Bus.{Board}
use Rattle.bus.proofs.BusLaws.{room_keeps}
use Rattle.plan.specs.declared.Plan.{Plan}
use Rattle.plan.specs.Plans.{Done}
use Rattle.movem.specs.Movem.{block_room, block_put}
use Rattle.bank.specs.Bank.{pc_of, sr_of, mode_of, supervisor, tracing, bank, settle}
use Rattle.exception.specs.Exceptions.{Stepped, fresh, supervisor_sr, exception, fault}
use Rattle.execute.specs.Dispatch.{execute, own_clocks}
use Rattle.step.specs.declared.Tried.{Tried}
use Rattle.step.specs.Steps.{plan_with_flow, checked, Attempt, attempt, commit, trap_of, take_trap, traced, both, carry_out, conclude}
use Rattle.step.specs.Steps.{begun, instruction, interrupt_sr, interrupt, one_step}

-- a part of an outcome
module _ (x y : Stepped) (e : x ≡ y) where
  pub slots_by : (t : List ℕ) → t ≡ x.s → t ≡ y.s
  slots_by t d = cc

  pub memory_by : (t : List ℕ) → t ≡ x.m → t ≡ y.m
  memory_by t d = cc

  pub event_by : (t : ℕ) → t ≡ x.event → t ≡ y.event
  event_by t d = cc

-- nothing happened
abbrev still : List ℕ → List ℕ → Stepped
still s m = record { s = s; m = m; event = 0 }

module _ (v : View) (p q : Plan) where
  pub checked_none : eqb p.write 3 ≡ true → p ≡ checked v p
  unfolding checked
  checked_none t = cc

  -- the fault alone is asked for
  pub checked_one : (n : ℕ) → eqb p.write 3 ≡ false → ltb p.write 3 ≡ true → n ≡ (room v p.at p.write p.flow).bad
      → q ≡ plan_with_flow p (record { pc = p.flow.pc; sr = p.flow.sr; bad = n }) → q ≡ checked v p
  unfolding checked
  checked_one n t u e d =
      let k = room_keeps v p.at p.write p.flow in
      let same : record { pc = p.flow.pc; sr = p.flow.sr; bad = n } ≡ room v p.at p.write p.flow =
      (λ j. record { pc = sym k.0 j; sr = sym k.1 j; bad = e j }) in cc (ap (plan_with_flow p) same)

  pub checked_block : (g : Flow) → eqb p.write 3 ≡ false → ltb p.write 3 ≡ false → g ≡ block_room v p → q ≡ plan_with_flow p g → q ≡ checked v p
  unfolding checked
  checked_block g t u e d = cc

module _ (r t : List ℕ) (v : View) (f : Flow) (w : Fetched) (p q : Plan) (e : w ≡ next_word v f) where
  pub attempt_is : (n : ℕ) → record { r = t; p = p } ≡ execute r v w.value w.flow → n ≡ own_clocks r v w.value w.flow → q ≡ checked v p
      → record { r = t; t = record { op = w.value; p = q; clocks = n } } ≡ attempt r v f
  unfolding attempt
  attempt_is n d c h = cc (ap (λ (o : Done). o.r) d, ap (λ (o : Done). o.p) d)

-- q is what the code lends for the state of f
pub lent_attempt_is : (board : Board) (m r t : List ℕ) (q : List (List ℕ)) (f : Flow) (b : Bool) (x : Tried) → b ≡ supervisor f.sr
    → view_of q ≡ seen_by b board m → record { r = t; t = x } ≡ attempt r (view_of q) f
    → record { r = t; t = x } ≡ attempt r (seen_by (supervisor f.sr) board m) f
lent_attempt_is board m r t q f b x e d h = cc

pub begun_is : (board : Board) (s m r t : List ℕ) (f : Flow) (x : Tried) → r ≡ bank s → f ≡ fresh (pc_of s) (sr_of s)
    → record { r = t; t = x } ≡ attempt r (seen_by (supervisor f.sr) board m) f → record { r = t; t = x } ≡ begun board s m
begun_is board s m r t f x e d h = cc

module _ (m r o : List ℕ) (p : Plan) where
  pub commit_one : ltb p.write 3 ≡ true → o ≡ put_sized m p.at p.write p.value → o ≡ commit m r p
  unfolding commit
  commit_one t e = cc

  pub commit_block : ltb p.write 3 ≡ false → o ≡ block_put m r p → o ≡ commit m r p
  unfolding commit
  commit_block t e = cc

module _ (p : Plan) where
  pub trap_of_vector : ltb p.vector 256 ≡ true → p.vector ≡ trap_of p
  unfolding trap_of
  trap_of_vector t = cc

  pub trap_of_stop : ltb p.vector 256 ≡ false → 0 ≡ trap_of p
  unfolding trap_of
  trap_of_stop t = cc

  trap_of_nothing : p.vector ≡ 0 → trap_of p ≡ 0
  unfolding trap_of
  trap_of_nothing e = rw e

module _ (s m : List ℕ) (vec : ℕ) where
  pub take_trap_some : (sr : ℕ) → sr ≡ supervisor_sr (sr_of s) → ltb 0 vec ≡ true → exception s m vec sr ≡ take_trap s m vec
  unfolding take_trap
  take_trap_some sr e t = cc

  pub take_trap_none_slots : ltb 0 vec ≡ false → s ≡ (take_trap s m vec).s
  unfolding take_trap
  take_trap_none_slots t = cc

  pub take_trap_none_memory : ltb 0 vec ≡ false → m ≡ (take_trap s m vec).m
  unfolding take_trap
  take_trap_none_memory t = cc

  pub take_trap_none_event : ltb 0 vec ≡ false → 0 ≡ (take_trap s m vec).event
  unfolding take_trap
  take_trap_none_event t = cc

pub traced_is : (vec event b : ℕ) (trace : Bool) → b ≡ bit (trace && not (eqb vec 4 || eqb vec 8 || eqb vec 10 || eqb vec 11) && not (eqb event 257)) → b * 9 ≡ traced vec trace event
unfolding traced
traced_is vec event b trace e = cc

-- a trap with outcome s₁, m₁, x, and the trace after it
module _ (s m s₁ m₁ : List ℕ) (vec x y : ℕ) (trace : Bool) (e1 : s₁ ≡ (take_trap s m vec).s) (e2 : m₁ ≡ (take_trap s m vec).m) (e3 : x ≡ (take_trap s m vec).event) (e4 : y ≡ traced vec trace x) where
  pub both_slots : (t : List ℕ) → t ≡ (take_trap s₁ m₁ y).s → t ≡ (both s m vec trace).s
  unfolding both
  both_slots t e = cc

  pub both_memory : (t : List ℕ) → t ≡ (take_trap s₁ m₁ y).m → t ≡ (both s m vec trace).m
  unfolding both
  both_memory t e = cc

  pub both_second : (t : ℕ) → eqb x 0 ≡ true → t ≡ (take_trap s₁ m₁ y).event → t ≡ (both s m vec trace).event
  unfolding both
  both_second t h e = cc

pub both_first : (s m : List ℕ) (vec x : ℕ) (trace : Bool) → x ≡ (take_trap s m vec).event → eqb x 0 ≡ false → x ≡ (both s m vec trace).event
unfolding both
both_first s m vec x trace e h = cc

-- no trap and no trace
both_quiet : (s m : List ℕ) → still s m ≡ both s m 0 false
unfolding both take_trap traced
both_quiet s m = cc

-- s₁ is what the code holds of the slots s
module _ (s m r : List ℕ) (p : Plan) (trace : Bool) (s₁ : List ℕ) (d : s₁ ≡ s) where
  module _ (t : eqb p.write 3 ≡ true) where
    module _ (h : (eqb p.vector 0 && not trace) ≡ true) where
      quiet : still s₁ m ≡ carry_out s m r p trace
      unfolding carry_out
      quiet =
          let none = trap_of_nothing p (eqb-true p.vector 0 (and_left (eqb p.vector 0) (not trace) h)) in
          let untraced = not-true trace (and_right (eqb p.vector 0) (not trace) h) in
          let b : still s m ≡ both s m (trap_of p) trace = rw (none, untraced) (both_quiet s m) in cc

      pub carry_out_quiet_slots : s₁ ≡ (carry_out s m r p trace).s
      carry_out_quiet_slots = ap (λ (x : Stepped). x.s) quiet

      pub carry_out_quiet_memory : m ≡ (carry_out s m r p trace).m
      carry_out_quiet_memory = ap (λ (x : Stepped). x.m) quiet

      pub carry_out_quiet_event : 0 ≡ (carry_out s m r p trace).event
      carry_out_quiet_event = ap (λ (x : Stepped). x.event) quiet

    pub carry_out_trap : (vec : ℕ) → vec ≡ trap_of p → both s₁ m vec trace ≡ carry_out s m r p trace
    unfolding carry_out
    carry_out_trap vec e = cc

  module _ (t : eqb p.write 3 ≡ false) (n : List ℕ) (e : n ≡ commit m r p) where
    pub carry_out_trace : trace ≡ true → take_trap s₁ n 9 ≡ carry_out s m r p trace
    unfolding carry_out
    carry_out_trace h = cc

    pub carry_out_write_slots : trace ≡ false → s₁ ≡ (carry_out s m r p trace).s
    unfolding carry_out take_trap
    carry_out_write_slots h = cc

    pub carry_out_write_memory : trace ≡ false → n ≡ (carry_out s m r p trace).m
    unfolding carry_out take_trap
    carry_out_write_memory h = cc

    pub carry_out_write_event : trace ≡ false → 0 ≡ (carry_out s m r p trace).event
    unfolding carry_out take_trap
    carry_out_write_event h = cc

-- the end of an instruction: t is what was tried, r the registers then
module _ (s m r : List ℕ) (t : Tried) where
  pub conclude_fine : (b : Bool) → eqb t.p.flow.bad 0 ≡ true → b ≡ tracing (sr_of s) → carry_out (settle s r t.p) m r t.p b ≡ conclude s m r t
  unfolding conclude
  conclude_fine b h e = cc

  pub conclude_faults : eqb t.p.flow.bad 0 ≡ false → fault s m t.p.flow.bad t.op ≡ conclude s m r t
  unfolding conclude
  conclude_faults h = cc

-- s₁ is the second loan of the slots s
pub instruction_is : (board : Board) (s s₁ m r : List ℕ) (t : Tried) → s₁ ≡ s → record { r = r; t = t } ≡ begun board s m
    → conclude s₁ m r t ≡ instruction board s m
unfolding instruction
instruction_is board s s₁ m r t e d = cc (ap (λ (a : Attempt). a.r) d, ap (λ (a : Attempt). a.t) d)

pub interrupt_is : (s m : List ℕ) (level vector sr : ℕ) → sr ≡ interrupt_sr (sr_of s) level → exception s m vector sr ≡ interrupt s m level vector
unfolding interrupt
interrupt_is s m level vector sr e = cc

module _ (board : Board) (s m : List ℕ) (level vector : ℕ) where
  pub step_interrupted : (eqb level TopLevel || ltb (sr_of s / Mask % 8) level) ≡ true → interrupt s m level vector ≡ one_step board s m level vector
  unfolding one_step
  step_interrupted h = cc

  module _ (h : (eqb level TopLevel || ltb (sr_of s / Mask % 8) level) ≡ false) where
    pub step_instruction : eqb (mode_of s) 0 ≡ true → instruction board s m ≡ one_step board s m level vector
    unfolding one_step
    step_instruction k = cc

    pub step_stopped_slots : eqb (mode_of s) 0 ≡ false → s ≡ (one_step board s m level vector).s
    unfolding one_step
    step_stopped_slots k = cc

    pub step_stopped_memory : eqb (mode_of s) 0 ≡ false → m ≡ (one_step board s m level vector).m
    unfolding one_step
    step_stopped_memory k = cc

    pub step_stopped_event : eqb (mode_of s) 0 ≡ false → 0 ≡ (one_step board s m level vector).event
    unfolding one_step
    step_stopped_event k = cc
