-- OddJumpLaws.antt - K3's theorem: a step that makes one of the nine jumps to an odd address leaves what `AsAsked` says, whatever the window.
-- planned: each of the nine hands its target to `jump`; frame_is: the frame in words; fails: such a step is that fault; odd-jumps: the theorem.
-- Uses: bits, bus, operand, plan, decode, control, system, bank, frames, exception, clocks, execute, step.
use Prim.Native.Nat.{ℕ, ◌+◌, ◌%◌, ◌/◌, ◌<◌}
use native.Mathlib.Omega.{arith}
use mathlib.Core.Path.{◌≡◌, refl, sym, ap, ◌∙◌}
use mathlib.Core.Bool.{Bool, true, false, ◌&&◌, ◌||◌, not}
use mathlib.Core.List.{List}
use lib.ListN.{get_or, set}
use lib.Seq.{get_or-set_other}
use lib.Dec.{ltb, eqb}
use borrow.Author.Tests.{eq-eqb, ne_eqb}
use Rattle.codes.specs.Codes.{Supervisor, Addresses, AddressError, ProgramRead, NoWrite}
use Rattle.codes.specs.Fields.{condition_field, ea_register}
use Rattle.bits.specs.Bits.{plus, minus}
use Rattle.bits.proofs.BitsLaws.{and_left, and_right}
use Rattle.flags.specs.Flags.{condition}
use Rattle.bus.specs.declared.Flow.{Flow}
use Rattle.bus.specs.Bus.{Board}
use Rattle.bus.specs.Bus.{View, all_of, packed, information, fault_address, fault_information}
use Rattle.plan.specs.declared.Plan.{Plan}
use Rattle.plan.specs.Plans.{Done, jump, push}
use Rattle.decode.specs.Rows.{kind_of, privileged}
use Rattle.control.specs.Control.{jump_when, branch_plan, branch_subroutine, decrement_branch, jump_plan, jump_subroutine, return_restore, return_subroutine, counted}
use Rattle.system.specs.System.{return_exception}
use Rattle.bank.specs.Bank.{ssp_of, pc_of, sr_of, mode_of, tracing, bank}
use Rattle.frames.specs.Frames.{small_frame, fault_access, fault_rest, big_frame}
use Rattle.exception.specs.Exceptions.{Stepped, fresh, supervisor_sr, handler, can_enter, enter, halted, big_room, big_ready, fault_taken, fault}
use Rattle.clocks.specs.Clocks.{exception_clocks}
use Rattle.execute.specs.Dispatch.{control_kind, system_kind, dispatch, as_user, execute}
use Rattle.step.specs.Steps.{Attempt, checked, attempt, conclude, sight, instruction, one_step, ended_clocks, step_clocks}
use Rattle.step.proofs.StepLaws.{conclude_faults, step_instruction}
use Rattle.step.proofs.ClockLaws.{ended_halts, ended_fault, concluded_is, instruction_clocks_is, clocks_instruction}
use Rattle.odd_jumps.specs.OddJumps.{Nine, bcc, bra, bsr, dbcc, jmp, jsr, rts, rtr, rte, kind, Leads, leads, leads_from, word_at_pc, OddJump}
use Rattle.odd_jumps.specs.OddJumps.{blaming, Blamed, Halts, AsAsked}
use Rattle.odd_jumps.proofs.FlowLaws.{next_word_keeps_sr, leads_keeps_sr, room_when_failed}

not_true : (b : Bool) → not b ≡ true → b ≡ false
not_true true e = sym e
not_true false e = refl

not_ready : (b c : Bool) → c ≡ true → (b && not c) ≡ false
not_ready true c e = cc
not_ready false c e = refl

-- ---- each of the nine hands its target to `jump`, and plans at most one long
pub record Planned (p : Plan) (l : Leads) : Type 0 where
  pub bad : p.flow.bad ≡ (jump l.flow l.target).bad
  pub small : (ltb p.write NoWrite || eqb p.write NoWrite) ≡ true

module _ (r : List ℕ) (v : View) (op : ℕ) (f : Flow) where
  planned_counted : (c e : Bool) → condition f.sr (condition_field op) ≡ c → eqb (counted r (ea_register op)) 0xFFFF ≡ e → c ≡ false → e ≡ false
      → Planned (decrement_branch r v op f).p (leads dbcc r v op f)
  unfolding decrement_branch jump_when
  planned_counted c e g h c0 e0 = record { bad = cc; small = cc }

  pub planned : (j : Nine) → (leads j r v op f).made ≡ true → Planned (dispatch (kind j) r v op f).p (leads j r v op f)
  unfolding dispatch control_kind system_kind branch_plan jump_when branch_subroutine jump_plan jump_subroutine return_restore return_subroutine return_exception push
  planned bcc h = record { bad = cc; small = refl }
  planned bra h = record { bad = cc; small = refl }
  planned bsr h = record { bad = refl; small = refl }
  planned dbcc h =
      let c = condition f.sr (condition_field op) in
      let e = eqb (counted r (ea_register op)) 0xFFFF in
      planned_counted c e refl refl (not_true c (and_left (not c) (not e) h)) (not_true e (and_right (not c) (not e) h))
  planned jmp h = record { bad = refl; small = refl }
  planned jsr h = record { bad = refl; small = refl }
  planned rts h = record { bad = refl; small = refl }
  planned rtr h = record { bad = refl; small = refl }
  planned rte h = record { bad = refl; small = refl }

  execute_by : (x y : Bool) → privileged (kind_of op) ≡ x → eqb (f.sr / Supervisor % 2) 0 ≡ y → (x && y) ≡ false
      → execute r v op f ≡ dispatch (kind_of op) r v op f
  unfolding execute as_user
  execute_by true true g h e = absurd (let z : ◌≡◌ {A = ℕ} 0 1 = cc in omega arith)
  execute_by true false g h e = cc
  execute_by false true g h e = cc
  execute_by false false g h e = cc

-- a fault stays, whatever was to be written
checked_by : (v : View) (p : Plan) (b c : Bool) → eqb p.write NoWrite ≡ b → ltb p.write NoWrite ≡ c → (c || b) ≡ true → eqb p.flow.bad 0 ≡ false
    → (checked v p).flow.bad ≡ p.flow.bad
unfolding checked
checked_by v p true c g h k e = cc
checked_by v p false true g h k e = let q = room_when_failed v p.at p.write p.flow e in cc
checked_by v p false false g h k e = absurd (let z : ◌≡◌ {A = ℕ} 0 1 = cc in omega arith)

-- ---- the step
abbrev blame : List ℕ → ℕ → ℕ
blame s to = packed to (information ProgramRead (sr_of s)) AddressError

plus_two : (a k : ℕ) → plus (plus a k) 2 ≡ plus a (k + 2)
plus_two a k = omega arith

module _ (s m : List ℕ) (op to : ℕ) where
  address_is : fault_address (blame s to) ≡ to % Addresses
  address_is = omega arith

  information_is : fault_information (blame s to) ≡ information ProgramRead (sr_of s)
  information_is = omega arith

  -- the frame of the definition, with its words said
  frame_is : big_frame m (minus (ssp_of s) 14) (blame s to) op (sr_of s) (plus (pc_of s) 2) ≡ blaming s m op to
  unfolding big_frame fault_rest fault_access small_frame
  frame_is =
      let a = minus (ssp_of s) 14 in
      let u : plus (plus a 6) 2 ≡ plus a 8 = plus_two a 6 in
      let w : plus (plus a 8) 2 ≡ plus a 10 = plus_two a 8 in
      let x = address_is in
      let y = information_is in
      cc

module _ (j : Nine) (board : Board) (s m : List ℕ) (level vector : ℕ) (h : OddJump j board s m level) where
  abbrev op : ℕ
  op = (word_at_pc board s m).value

  abbrev to : ℕ
  to = (leads_from j board s m).target

  abbrev plan : Plan
  plan = (execute (bank s) (sight board s m) op (word_at_pc board s m).flow).p

  abbrev tried : Attempt
  tried = attempt (bank s) (sight board s m) (fresh (pc_of s) (sr_of s))

  -- the jump fails, with the SR before it
  jump_fails : (jump (leads_from j board s m).flow to).bad ≡ blame s to
  unfolding jump
  jump_fails =
      let f = (leads_from j board s m).flow in
      let x : eqb f.bad 0 ≡ true = eq-eqb f.bad 0 h.clean in
      let y : eqb (to % 2) 1 ≡ true = eq-eqb (to % 2) 1 h.odd in
      let z : f.sr ≡ sr_of s =
      leads_keeps_sr (sight board s m) j (bank s) op (word_at_pc board s m).flow ∙ next_word_keeps_sr (sight board s m) (fresh (pc_of s) (sr_of s)) in
      cc

  executed : execute (bank s) (sight board s m) op (word_at_pc board s m).flow
      ≡ dispatch (kind j) (bank s) (sight board s m) op (word_at_pc board s m).flow
  executed =
      let f = (word_at_pc board s m).flow in
      let z : f.sr ≡ sr_of s = next_word_keeps_sr (sight board s m) (fresh (pc_of s) (sr_of s)) in
      let e = h.found in
      let a : (privileged (kind_of op) && eqb (f.sr / Supervisor % 2) 0) ≡ false = cc h.allowed in
      execute_by (bank s) (sight board s m) op f (privileged (kind_of op)) (eqb (f.sr / Supervisor % 2) 0) refl refl a
      ∙ ap (λ (i : ℕ). dispatch i (bank s) (sight board s m) op f) e

  plan_fails : plan.flow.bad ≡ blame s to
  plan_fails =
      ap (λ (d : Done). d.p.flow.bad) executed ∙ (planned (bank s) (sight board s m) op (word_at_pc board s m).flow j h.made).bad ∙ jump_fails

  blame_some : eqb (blame s to) 0 ≡ false
  blame_some = ne_eqb (blame s to) 0 (λ e. omega (arith, e))

  checked_fails : (checked (sight board s m) plan).flow.bad ≡ blame s to
  checked_fails =
      let e : eqb plan.flow.bad 0 ≡ false = ap (λ (i : ℕ). eqb i 0) plan_fails ∙ blame_some in
      let k : (ltb plan.write NoWrite || eqb plan.write NoWrite) ≡ true =
      ap (λ (d : Done). ltb d.p.write NoWrite || eqb d.p.write NoWrite) executed
      ∙ (planned (bank s) (sight board s m) op (word_at_pc board s m).flow j h.made).small in
      checked_by (sight board s m) plan (eqb plan.write NoWrite) (ltb plan.write NoWrite) refl refl k e ∙ plan_fails

  tried_fails : tried.t.p.flow.bad ≡ blame s to
  unfolding attempt
  tried_fails = checked_fails

  tried_word : tried.t.op ≡ op
  unfolding attempt
  tried_word = refl

  faulted : eqb tried.t.p.flow.bad 0 ≡ false
  faulted = ap (λ (i : ℕ). eqb i 0) tried_fails ∙ blame_some

  concluded : conclude s m tried.r tried.t ≡ fault s m (blame s to) op
  concluded =
      sym (conclude_faults s m tried.r tried.t faulted) ∙ ap (λ (b : ℕ). fault s m b tried.t.op) tried_fails
      ∙ ap (λ (w : ℕ). fault s m (blame s to) w) tried_word

  -- the step is the fault, from the slots before it
  pub fails : one_step board s m level vector ≡ fault s m (blame s to) op
  unfolding instruction
  fails = sym (step_instruction board s m level vector h.quiet (eq-eqb (mode_of s) 0 h.running)) ∙ concluded

  -- its clocks, by its event x: c are those of an instruction that ends so
  timed : (x c : ℕ) → x ≡ (fault s m (blame s to) op).event → ((b : Bool) (mode : ℕ) → c ≡ ended_clocks tried.t b x mode)
      → c ≡ step_clocks board s m level vector
  timed x c e d =
      let o = conclude s m tried.r tried.t in
      let y : x ≡ o.event = e ∙ ap (λ (w : Stepped). w.event) (sym concluded) in
      let a =
      concluded_is s m tried.r o.s tried.t (tracing (sr_of s)) x c refl y refl (d (tracing (sr_of s)) (mode_of o.s)) in
      clocks_instruction board s m level vector c h.quiet (eq-eqb (mode_of s) 0 h.running)
      (instruction_clocks_is board s s m tried.r tried.t c refl refl a)

  -- the frame can be written and vector 3 is even, or not
  abbrev n : List ℕ
  n = blaming s m op to

  ready_is : big_ready s m (blame s to) op ≡ (big_room (all_of m) (minus (ssp_of s) 14) && not (eqb (handler (all_of n) 3 % 2) 1))
  unfolding big_ready can_enter
  ready_is = let e = frame_is s m op to in let v : blame s to % 4 ≡ 3 = omega arith in cc

  halts : big_ready s m (blame s to) op ≡ false → Halts s m (one_step board s m level vector) (step_clocks board s m level vector)
  unfolding fault
  halts e =
      let f : fault s m (blame s to) op ≡ halted s m = cc in
      record {
        ended = fails ∙ f;
        none = sym (timed 257 0 (sym (ap (λ (w : Stepped). w.event) f)) (λ b mode. ended_halts tried.t b 257 mode 0 refl faulted refl refl));
      }

  blamed : big_ready s m (blame s to) op ≡ true → Blamed s n (one_step board s m level vector) (step_clocks board s m level vector)
  unfolding fault fault_taken enter exception_clocks
  blamed e =
      let a = minus (ssp_of s) 14 in
      let sr = supervisor_sr (sr_of s) in
      let pc = handler (all_of n) 3 in
      let g = frame_is s m op to in
      let v : blame s to % 4 ≡ 3 = omega arith in
      let slots : (fault s m (blame s to) op).s ≡ set (set (set (set s 16 a) 17 pc) 18 sr) 19 0 = cc in
      let x : (fault s m (blame s to) op).event ≡ 4 = cc in
      let other : (u : List ℕ) (k i y : ℕ) → 15 < k → i < 16 → get_or (set u k y) i 0 ≡ get_or u i 0 =
      λ u k i y l q. get_or-set_other u k i y 0 (λ z. absurd (omega (arith, z, l, q))) in
      record {
        event = ap (λ (w : Stepped). w.event) fails ∙ x;
        memory = ap (λ (w : Stepped). w.m) fails ∙ cc;
        stays =
            λ i l.
            ap (λ (w : Stepped). get_or w.s i 0) fails ∙ ap (λ (u : List ℕ). get_or u i 0) slots
            ∙ other (set (set (set s 16 a) 17 pc) 18 sr) 19 i 0 (omega arith) l ∙ other (set (set s 16 a) 17 pc) 18 i sr (omega arith) l
            ∙ other (set s 16 a) 17 i pc (omega arith) l ∙ other s 16 i a (omega arith) l;
        slots = ap (λ (w : Stepped). w.s) fails ∙ slots;
        alone =
            sym (timed 4 50 (sym x)
            (λ b mode.
            ended_fault tried.t b 4 mode 50 refl faulted refl
            (ap (λ (i : ℕ). exception_clocks i tried.t.op) (sym (ap (λ (i : ℕ). i % 4) tried_fails ∙ v)))));
      }

  -- the theorem
  pub odd_jumps : AsAsked s m n (one_step board s m level vector) (step_clocks board s m level vector)
  odd_jumps =
      record {
        taken =
            λ e o.
            blamed (ready_is ∙ cc (e, ne_eqb (handler (all_of n) 3 % 2) 1 (λ z. omega (arith, z, o))));
        unwritable = λ e. halts (ready_is ∙ cc e);
        odd_handler =
            λ o.
            let room = big_room (all_of m) (minus (ssp_of s) 14) in
            let odd = eqb (handler (all_of n) 3 % 2) 1 in halts (ready_is ∙ not_ready room odd (eq-eqb (handler (all_of n) 3 % 2) 1 o));
      }
