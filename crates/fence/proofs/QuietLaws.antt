-- QuietLaws.antt - a step that names no event took no exception and did not halt: what it then is.
-- Quiet, quiet_of: why it names none; works_is, quiet_event, quiet_clocks: what such a step leaves, its event and its clocks.
-- Uses: bits, bus, plan, bank, exception, step.  Source: [K7], [01 One step].
use Prim.Native.Nat.{ℕ, ◌%◌}
use native.Mathlib.Omega.{arith}
use mathlib.Core.Path.{◌≡◌, refl, sym, ap, ◌∙◌}
use mathlib.Core.Bool.{Bool, true, false, ◌&&◌}
use mathlib.Core.List.{List}
use lib.Dec.{ltb, eqb}
use Rattle.codes.specs.Codes.{Running, TraceVector, NoVector, NoEvent, NoWrite, event_of}
use Rattle.bits.specs.Bits.{pick}
use Rattle.bus.specs.Bus.{Board}
use Rattle.bus.specs.Bus.{fault_vector}
use Rattle.plan.specs.declared.Plan.{Plan}
use Rattle.bank.specs.Bank.{sr_of, mode_of, tracing, settle}
use Rattle.exception.specs.Exceptions.{Stepped}
use Rattle.clocks.specs.Tables.{stopped_clocks}
use Rattle.step.specs.declared.Tried.{Tried}
use Rattle.step.specs.Steps.{commit, trap_of, take_trap, traced, both, carry_out, conclude, one_step}
use Rattle.step.specs.Steps.{ended_clocks, concluded_clocks, instruction_clocks, step_clocks}
use Rattle.fence.proofs.NameLaws.{still, plan_event, tried_event, tried, interrupted, step_event, none_named, step_names}
use Rattle.fence.proofs.NameLaws.{trap_none, carry_out_none, carry_out_write, conclude_fine, step_stands, step_works}

-- memory after the write of a plan, if it has one
abbrev pub written_by : List ℕ → List ℕ → Plan → List ℕ
written_by m r p = pick (eqb p.write NoWrite) m (commit m r p)

-- ---- a plan that names no event: no trap, and no trace
none_picked : (b : Bool) (x y : ℕ) → pick b (event_of x) y ≡ NoEvent → (b ≡ false) × (y ≡ NoEvent)
none_picked true x y e = absurd (omega (arith, e))
none_picked false x y e = (refl, e)

pub record Calm (p : Plan) (trace : Bool) : Type 0 where
  pub untraced : trace ≡ false
  pub untrapped : (eqb p.write NoWrite && ltb NoVector (trap_of p)) ≡ false

calm_of : (p : Plan) (trace : Bool) → plan_event p trace ≡ NoEvent → Calm p trace
calm_of p trace e =
    let x = none_picked (eqb p.write NoWrite && ltb NoVector (trap_of p)) (trap_of p % 256) (pick trace (event_of TraceVector) NoEvent) e in
    record { untraced = (none_picked trace TraceVector NoEvent x.1).0; untrapped = x.0 }

-- ---- what is then left
both_of : (s m : List ℕ) (vec : ℕ) (a b : Stepped) → a ≡ take_trap s m vec → b ≡ take_trap a.s a.m (traced vec false a.event)
    → both s m vec false ≡ record { s = b.s; m = b.m; event = pick (eqb a.event NoEvent) b.event a.event }
unfolding both
both_of s m vec a b p q = cc

untraced_none : (vec e : ℕ) → ltb NoVector (traced vec false e) ≡ false
unfolding traced
untraced_none vec e = refl

both_still : (s m : List ℕ) (vec : ℕ) → ltb NoVector vec ≡ false → both s m vec false ≡ still s m
both_still s m vec h =
    both_of s m vec (still s m) (still s m) (sym (trap_none s m vec h))
    (sym (trap_none s m (traced vec false NoEvent) (untraced_none vec NoEvent)))

module _ (s m r : List ℕ) (p : Plan) where
  left_by : (b : Bool) → eqb p.write NoWrite ≡ b → (b && ltb NoVector (trap_of p)) ≡ false
      → carry_out s m r p false ≡ still s (pick b m (commit m r p))
  left_by true h c = carry_out_none s m r p false h ∙ both_still s m (trap_of p) c
  left_by false h c = carry_out_write s m r p false h ∙ trap_none s (commit m r p) NoVector refl

  calm_left : (trace : Bool) → Calm p trace → carry_out s m r p trace ≡ still s (written_by m r p)
  calm_left trace c = ap (λ (b : Bool). carry_out s m r p b) c.untraced ∙ left_by (eqb p.write NoWrite) refl c.untrapped

-- ---- a step
-- why a step names no event: it does nothing, or its instruction ends well
pub data Quiet (board : Board) (s m : List ℕ) (level : ℕ) : Type 0 where
  stands : interrupted s level ≡ false → eqb (mode_of s) Running ≡ false → Quiet board s m level
  works : interrupted s level ≡ false → eqb (mode_of s) Running ≡ true → eqb (tried board s m).t.p.flow.bad 0 ≡ true
      → Calm (tried board s m).t.p (tracing (sr_of s)) → Quiet board s m level

module _ (board : Board) (s m : List ℕ) (level vector : ℕ) where
  fine_by : (t : Tried) (trace b : Bool) → eqb t.p.flow.bad 0 ≡ b
      → pick b (plan_event t.p trace) (event_of (fault_vector t.p.flow.bad)) ≡ NoEvent
      → (eqb t.p.flow.bad 0 ≡ true) × Calm t.p trace
  fine_by t trace true h e = (h, calm_of t.p trace e)
  fine_by t trace false h e = absurd (omega (arith, e))

  quiet_by : (b c : Bool) → interrupted s level ≡ b → eqb (mode_of s) Running ≡ c
      → pick b (event_of (vector % 256)) (pick c (tried_event (tried board s m).t (tracing (sr_of s))) NoEvent) ≡ NoEvent → Quiet board s m level
  quiet_by true c h k e = absurd (omega (arith, e))
  quiet_by false false h k e = stands h k
  quiet_by false true h k e =
      let t = (tried board s m).t in
      let x = fine_by t (tracing (sr_of s)) (eqb t.p.flow.bad 0) refl e in works h k x.0 x.1

  pub quiet_of : step_event board s m level vector ≡ NoEvent → Quiet board s m level
  quiet_of e = quiet_by (interrupted s level) (eqb (mode_of s) Running) refl refl e

  -- a step with no event names none
  pub names_none : (one_step board s m level vector).event ≡ NoEvent → step_event board s m level vector ≡ NoEvent
  names_none e = none_named (step_event board s m level vector) (one_step board s m level vector).event (step_names board s m level vector) e

  -- what an instruction leaves that ends well
  pub works_is : interrupted s level ≡ false → eqb (mode_of s) Running ≡ true → eqb (tried board s m).t.p.flow.bad 0 ≡ true
      → Calm (tried board s m).t.p (tracing (sr_of s))
      → one_step board s m level vector ≡ still (settle s (tried board s m).r (tried board s m).t.p)
      (written_by m (tried board s m).r (tried board s m).t.p)
  works_is h k b c =
      let r = (tried board s m).r in
      let t = (tried board s m).t in
      step_works board s m level vector h k ∙ conclude_fine s m r t b ∙ calm_left (settle s r t.p) m r t.p (tracing (sr_of s)) c

  pub quiet_event : Quiet board s m level → (one_step board s m level vector).event ≡ NoEvent
  quiet_event (stands h k) = ap (λ (x : Stepped). x.event) (step_stands board s m level vector h k)
  quiet_event (works h k b c) = ap (λ (x : Stepped). x.event) (works_is h k b c)

  -- ---- its clocks: its instruction's own, or those of a machine that is stopped
  concluded_by : (r : List ℕ) (t : Tried) → (conclude s m r t).event ≡ NoEvent → concluded_clocks s m r t ≡ t.clocks
  unfolding concluded_clocks ended_clocks
  concluded_by r t e = rw e

  clocks_worked : interrupted s level ≡ false → eqb (mode_of s) Running ≡ true
      → step_clocks board s m level vector ≡ concluded_clocks s m (tried board s m).r (tried board s m).t
  unfolding step_clocks instruction_clocks
  clocks_worked h k = cc

  clocks_stopped : interrupted s level ≡ false → eqb (mode_of s) Running ≡ false → step_clocks board s m level vector ≡ stopped_clocks
  unfolding step_clocks
  clocks_stopped h k = cc

  clocks_by : (c : Bool) → interrupted s level ≡ false → eqb (mode_of s) Running ≡ c → (one_step board s m level vector).event ≡ NoEvent
      → step_clocks board s m level vector ≡ pick c (tried board s m).t.clocks stopped_clocks
  clocks_by true h k e =
      clocks_worked h k
      ∙ concluded_by (tried board s m).r (tried board s m).t (sym (ap (λ (x : Stepped). x.event) (step_works board s m level vector h k)) ∙ e)
  clocks_by false h k e = clocks_stopped h k

  standing : Quiet board s m level → interrupted s level ≡ false
  standing (stands h k) = h
  standing (works h k b c) = h

  pub quiet_clocks : Quiet board s m level
      → step_clocks board s m level vector ≡ pick (eqb (mode_of s) Running) (tried board s m).t.clocks stopped_clocks
  quiet_clocks q = clocks_by (eqb (mode_of s) Running) (standing q) refl (quiet_event q)
