-- SlotsLaws.antt - a property of the slots that the parts of a step keep, the step keeps: one walk for all such properties.
-- Speaks of: settle of bank, exception and fault of exception, specs/Steps.antt. No instruction is looked at: `execute` stays shut.
-- Source: [01 State], [01 One step].
-- * Keeps P: halting, the entry of an exception and the end of an instruction keep P.
-- * kept_by_one_step: then a step keeps it. twenty_of_one_step: twenty slots stay twenty, whatever they hold.
use Prim.Native.Nat.{ℕ, ◌/◌, ◌%◌}
use mathlib.Core.Path.{◌≡◌, refl, ◌∙◌}
use mathlib.Core.Bool.{Bool, ◌||◌}
use mathlib.Core.List.{List}
use lib.ListN.{length, set, length-set}
use lib.Dec.{ltb, eqb}
use Rattle.codes.specs.Codes.{Ssp, Pc, Sr, Mode, Running, Halted, Mask, TopLevel, TraceVector, NoVector, NoWrite}
use Rattle.bits.specs.Bits.{pick, minus}
use Rattle.bits.proofs.BitsLaws.{pick_cases}
use Rattle.bus.specs.Bus.{View, fault_vector}
use Rattle.bus.specs.Bus.{Board}
use Rattle.record.specs.Limits.{slot_limit}
use Rattle.plan.specs.declared.Plan.{Plan}
use Rattle.bank.specs.Bank.{ssp_of, pc_of, sr_of, mode_of, tracing, bank, settle}
use Rattle.exception.specs.Exceptions.{Stepped, fresh, supervisor_sr, handler, enter, small_ready, exception, big_ready, fault_taken, fault}
use Rattle.step.specs.declared.Tried.{Tried}
use Rattle.step.specs.Steps.{sight, conclude, attempt, commit, trap_of, take_trap, traced, both, carry_out, instruction, interrupt_sr, interrupt}
use Rattle.step.specs.Steps.{one_step}

pub record Keeps (P : List ℕ → Type 0) : Type 0 where
  pub halting : (s : List ℕ) → P s → P (set s Mode Halted)
  pub trapping : (s : List ℕ) (v : View) (b vec : ℕ) → P s → P (enter s v (minus (ssp_of s) b) vec (supervisor_sr (sr_of s)))
  pub interrupting : (s : List ℕ) (v : View) (b vec level : ℕ) → P s → P (enter s v (minus (ssp_of s) b) vec (interrupt_sr (sr_of s) level))
  pub settling : (s r : List ℕ) (p : Plan) → P s → P (settle s r p)

module _ (P : List ℕ → Type 0) (keeps : Keeps P) where
  abbrev InSlots : Stepped → Type 0
  InSlots t = P t.s

  module _ (s m : List ℕ) (h : P s) where
    kept_by_exception : (vec sr : ℕ) → ((v : View) → P (enter s v (minus (ssp_of s) 6) vec sr)) → InSlots (exception s m vec sr)
    unfolding exception
    kept_by_exception vec sr e = pick_cases InSlots (small_ready s m vec) (e _) (keeps.halting s h)

    kept_by_fault : (bad op : ℕ) → InSlots (fault s m bad op)
    unfolding fault fault_taken
    kept_by_fault bad op = pick_cases InSlots (big_ready s m bad op) (keeps.trapping s _ 14 (fault_vector bad) h) (keeps.halting s h)

    kept_by_take_trap : (vec : ℕ) → InSlots (take_trap s m vec)
    unfolding take_trap
    kept_by_take_trap vec =
        pick_cases InSlots (ltb NoVector vec) (kept_by_exception vec (supervisor_sr (sr_of s)) (λ v. keeps.trapping s v 6 vec h)) h

  module _ (s m : List ℕ) (h : P s) where
    kept_by_both : (vec : ℕ) (trace : Bool) → InSlots (both s m vec trace)
    unfolding both
    kept_by_both vec trace =
        let a = take_trap s m vec in kept_by_take_trap a.s a.m (kept_by_take_trap s m h vec) (traced vec trace a.event)

    kept_by_carry_out : (r : List ℕ) (p : Plan) (trace : Bool) → InSlots (carry_out s m r p trace)
    unfolding carry_out
    kept_by_carry_out r p trace =
        pick_cases InSlots (eqb p.write NoWrite)
        (kept_by_both (trap_of p) trace)
        (kept_by_take_trap s (commit m r p) h (pick trace TraceVector NoVector))

  module _ (s m : List ℕ) (h : P s) where
    kept_by_conclude : (r : List ℕ) (t : Tried) → InSlots (conclude s m r t)
    unfolding conclude
    kept_by_conclude r t =
        let p = t.p in
        pick_cases InSlots (eqb p.flow.bad 0)
        (kept_by_carry_out (settle s r p) m (keeps.settling s r p h) r p (tracing (sr_of s)))
        (kept_by_fault s m h p.flow.bad t.op)

    kept_by_instruction : (board : Board) → InSlots (instruction board s m)
    unfolding instruction
    kept_by_instruction board =
        let a = attempt (bank s) (sight board s m) (fresh (pc_of s) (sr_of s)) in kept_by_conclude a.r a.t

    stepped_keeps : (board : Board) (level vector : ℕ) → InSlots (one_step board s m level vector)
    unfolding one_step interrupt
    stepped_keeps board level vector =
        pick_cases InSlots (eqb level TopLevel || ltb (sr_of s / Mask % 8) level)
        (kept_by_exception s m h vector (interrupt_sr (sr_of s) level) (λ v. keeps.interrupting s v 6 vector level h))
        (pick_cases InSlots (eqb (mode_of s) Running) (kept_by_instruction board) h)

  pub kept_by_one_step : (board : Board) (s m : List ℕ) → P s → (level vector : ℕ) → InSlots (one_step board s m level vector)
  kept_by_one_step board s m h level vector = stepped_keeps s m h board level vector

-- ---- twenty slots
abbrev Twenty : List ℕ → Type 0
Twenty s = length s ≡ slot_limit

twenty_of_set : (s : List ℕ) (k v : ℕ) → Twenty s → Twenty (set s k v)
twenty_of_set s k v h = length-set s k v ∙ h

twenty_of_enter : (s : List ℕ) (v : View) (a vec sr : ℕ) → Twenty s → Twenty (enter s v a vec sr)
unfolding enter
twenty_of_enter s v a vec sr h =
    let pc = handler v vec in
    let s₁ = set s Ssp a in
    let s₂ = set s₁ Pc pc in
    twenty_of_set (set s₂ Sr sr) Mode Running (twenty_of_set s₂ Sr sr (twenty_of_set s₁ Pc pc (twenty_of_set s Ssp a h)))

twenty_of_settle : (s r : List ℕ) (p : Plan) → Twenty (settle s r p)
unfolding settle
twenty_of_settle s r p = refl

twenty_keeps : Keeps Twenty
twenty_keeps =
    record {
      halting = λ s h. twenty_of_set s Mode Halted h;
      trapping = λ s v b vec h. twenty_of_enter s v (minus (ssp_of s) b) vec (supervisor_sr (sr_of s)) h;
      interrupting = λ s v b vec level h. twenty_of_enter s v (minus (ssp_of s) b) vec (interrupt_sr (sr_of s) level) h;
      settling = λ s r p h. twenty_of_settle s r p;
    }

pub twenty_of_one_step : (board : Board) (s m : List ℕ) → length s ≡ slot_limit → (level vector : ℕ) → length (one_step board s m level vector).s ≡ slot_limit
twenty_of_one_step board s m h level vector = kept_by_one_step Twenty twenty_keeps board s m h level vector
