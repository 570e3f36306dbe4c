-- RunLaws.antt - an accepted run is its steps.
-- * run_as_steps: after n steps done, slots, memory, journal and mark are those of n step calls in a row with level 0, each of them accepted;
--   n is at most the budget; the reason is the first that holds at the end, and before each of the n steps none held; clocks, bytes moved
--   and records dropped are the sums of what the n step calls tell, that of bytes cut at 64 bits.
-- * run_frame, where all records are kept: below the mark given and from the mark returned on, the journal is as it was.
-- * run_memory: a byte of memory that is in the record of none of its steps is as it was.
-- Source: [01 Calls, Run], [01 How much each promise says], [K2], [K5], [K7].
use Prim.Native.Nat.{ℕ, zero, suc, ◌+◌, ◌-◌, ◌≤◌, ◌<◌}
use mathlib.Core.Path.{◌≡◌, refl, sym, ap, subst, ◌∙◌}
use mathlib.Core.Bool.{Bool, true, false}
use mathlib.Core.List.{List, [], ◌∷◌}
use native.Mathlib.Nat.{le_of_suc-le-suc, not-suc-le-zero}
use native.Mathlib.Omega.{arith}
use lib.ListN.{length, get_or}
use lib.Dec.{eqb}
use borrow.Author.Tests.{ltb-true, ltb-false, eqb-true, eqb-false}
use Rattle.bits.specs.Bits.{iter}
use Rattle.numbers.proofs.WrittenLaws.{length_written}
use Rattle.bus.specs.Bus.{Board}
use Rattle.bank.specs.Bank.{pc_of, mode_of}
use Rattle.record.specs.Limits.{longest_record}
use Rattle.record.specs.Change.{diffs}
use Rattle.oldest.specs.Room.{capped}
use Rattle.calls.specs.declared.Manner.{Manner}
use Rattle.calls.specs.declared.Manner.TheVariants.{Dropping, Keeping}
use Rattle.calls.specs.declared.StepAnswer.{StepAnswer}
use Rattle.calls.specs.Calls.{memory_fits, state_fits, no_room, torn_way, StepCall, RunCall, step_with_room, ended, running}
use Rattle.calls.specs.Refusals.{Line, Given, this, later, NoneApplies, NoRoom, TornWay, when_dropping, reasons}
use Rattle.calls.specs.History.{Machine, Request, step_of, run_of, stepping, running_on, act, record_after, one_more}
use Rattle.calls.proofs.ValidLaws.{BoardFits, Lent, Valid, lent_when_valid, valid_when_accepted, state_fits_when}
use Rattle.calls.proofs.JournalLaws.{JournalLent}
use Rattle.calls.proofs.RefusalLaws.{step_call_number, step_accepted, step_number_when, run_inv, run_call_number, run_accepted}
use Rattle.calls.proofs.RefusalLaws.{torn_way_when, no_torn_way}
use Rattle.calls.proofs.ActLaws.{room_at, seen_at, act_step, step_valid, step_room, valid_after, board_after, lent_after, journal_lent_after}
use Rattle.calls.proofs.FrameLaws.{Framed, framed_refl, framed_trans, NotAmong, step_frame, step_memory}

-- one step call with level 0
abbrev pub plain : Request
plain = record { level = 0; vector = 0 }

abbrev pub machine_of : Board → RunCall → Machine
machine_of board c = record { board = board; slots = c.s; memory = c.m; journal = c.j; mark = c.a.mark }

module _ (w : Manner) where
  abbrev pub one : Machine → Machine
  one x = act w (step_of 0 0) x

  -- the sum of what n step calls in a row with level 0 tell, each given what the last one left
  abbrev pub sum_in : (StepAnswer → ℕ) → ℕ → Machine → ℕ
  sum_in tell zero x = 0
  sum_in tell (suc n) x = tell (stepping w 0 0 x).a + sum_in tell n (one x)

  abbrev pub clocks_in : ℕ → Machine → ℕ
  clocks_in = sum_in (λ a. a.clocks)

  abbrev pub moved_in : ℕ → Machine → ℕ
  moved_in = sum_in (λ a. a.moved)

  abbrev pub dropped_in : ℕ → Machine → ℕ
  dropped_in = sum_in (λ a. a.dropped)

  -- the reasons at a machine, with n steps done
  abbrev pub reasons_at : ℕ → ℕ → ℕ → Machine → List Line
  reasons_at budget stop n x = reasons w budget stop n x.slots x.memory x.journal x.mark

  -- what is left of a run, with n steps of t clocks, v bytes moved and u records dropped done before, as steps from x
  record Ran (budget stop n t v u : ℕ) (x : Machine) (c : RunCall) : Type 1 where
    done : ℕ
    steps : c.a.steps ≡ n + done
    clocks : c.a.clocks ≡ t + clocks_in done x
    moved : c.a.moved ≡ capped (v + moved_in done x)
    dropped : c.a.dropped ≡ u + dropped_in done x
    within : n + done ≤ budget
    same : machine_of x.board c ≡ iter one done x
    accepted : (i : ℕ) → i < done → (stepping w 0 0 (iter one i x)).a.number ≡ 0
    before : (i : ℕ) → i < done → NoneApplies (reasons_at budget stop (n + i) (iter one i x))
    reason : Given (reasons_at budget stop (n + done) (iter one done x)) c.a.reason
    given : c.a.reason ≡ 0 → ⊥

  module _ (budget stop : ℕ) where
    -- what is left of a run at a machine, k of its budget
    abbrev left : ℕ → ℕ → ℕ → ℕ → ℕ → Machine → RunCall
    left k n t v u x = running w x.board k n t v u stop x.slots x.memory x.journal x.mark

    -- a run that ends here, by a reason
    here : (reason n t v u : ℕ) (x : Machine) → n ≤ budget → Given (reasons_at budget stop n x) reason → (reason ≡ 0 → ⊥)
        → Ran budget stop n t v u x (ended reason n t v u x.slots x.memory x.journal x.mark)
    unfolding iter
    here reason n t v u x h g z =
        let q : n ≡ n + 0 = omega arith in
        record {
          done = 0;
          steps = q;
          clocks = omega arith;
          moved = (let z : v ≡ v + 0 = omega arith in ap capped z);
          dropped = omega arith;
          within = omega arith;
          same = refl;
          accepted = λ i l. absurd (not-suc-le-zero l);
          before = λ i l. absurd (not-suc-le-zero l);
          reason = subst (λ (b : ℕ). Given (reasons_at budget stop b x) reason) q g;
          given = z;
        }

    -- a run that takes a step here
    onward : (n t v u : ℕ) (x : Machine) (c : RunCall) → (stepping w 0 0 x).a.number ≡ 0 → NoneApplies (reasons_at budget stop n x)
        → Ran budget stop (n + 1) (t + (stepping w 0 0 x).a.clocks) (v + (stepping w 0 0 x).a.moved) (u + (stepping w 0 0 x).a.dropped) (one x) c → Ran budget stop n t v u x c
    unfolding iter act
    onward n t v u x c ok free r =
        let q : n + 1 + r.done ≡ n + suc r.done = omega arith in
        let p : v + (stepping w 0 0 x).a.moved + moved_in r.done (one x) ≡ v + moved_in (suc r.done) x = omega arith in
        record {
          done = suc r.done;
          steps = r.steps ∙ q;
          clocks = r.clocks ∙ omega arith;
          moved = r.moved ∙ ap capped p;
          dropped = r.dropped ∙ omega arith;
          within = omega (arith, r.within);
          same = r.same;
          accepted = elim [ zero ↦ λ l. ok | suc i ↦ λ l. r.accepted i (le_of_suc-le-suc l) ];
          before =
              elim [
                | zero ↦ λ l. let p : n ≡ n + 0 = omega arith in subst (λ (b : ℕ). NoneApplies (reasons_at budget stop b x)) p free
                | suc i ↦ λ l. let p : n + 1 + i ≡ n + suc i = omega arith in subst (λ (b : ℕ). NoneApplies (reasons_at budget stop b (iter one i (one x)))) p (r.before i (le_of_suc-le-suc l))
              ];
          reason = subst (λ (b : ℕ). Given (reasons_at budget stop b (iter one r.done (one x))) c.a.reason) q r.reason;
          given = r.given;
        }

    -- an accepted step with level 0 is the step that the run takes
    one_taken : (x : Machine) → (stepping w 0 0 x).a.number ≡ 0
        → one x ≡ (let c = step_with_room w x.board x.slots x.memory 0 0 x.journal x.mark in record { board = x.board; slots = c.s; memory = c.m; journal = c.j; mark = c.a.mark })
    unfolding act
    one_taken x e = ap (λ (c : StepCall). record { board = x.board; slots = c.s; memory = c.m; journal = c.j; mark = c.a.mark }) (step_accepted w x.board x.slots x.memory 0 x.journal x.mark 0 e)

    -- the lines of room, told by the tests
    room_free : (w : Manner) (j : List ℕ) (mark : ℕ) → no_room w j mark ≡ false → NoRoom w j mark → ⊥
    room_free Dropping j mark e h = let g = ltb-false (length j) longest_record e in omega arith
    room_free Keeping j mark e h = let g = ltb-false (length j - mark) longest_record e in omega arith

    room_gone : (w : Manner) (j : List ℕ) (mark : ℕ) → no_room w j mark ≡ true → NoRoom w j mark
    room_gone Dropping j mark e = ltb-true (length j) longest_record e
    room_gone Keeping j mark e = ltb-true (length j - mark) longest_record e

    module _ (x : Machine) (l : ℕ) (ls : List Line) where
      abbrev lines : Manner → List Line
      lines w = when_dropping w (record { number = l; applies = TornWay (length x.memory) x.journal x.mark }) ls

      way_this : (w : Manner) → torn_way w (length x.memory) x.journal x.mark ≡ true → Given (lines w) l
      way_this Dropping e = this (torn_way_when (length x.memory) x.journal x.mark e) refl
      way_this Keeping e = absurd (let z : ◌≡◌ {A = ℕ} 0 1 = cc in omega arith)

      way_later : (w : Manner) (n : ℕ) → torn_way w (length x.memory) x.journal x.mark ≡ false → Given ls n → Given (lines w) n
      way_later Dropping n e g = later (no_torn_way (length x.memory) x.journal x.mark e) g
      way_later Keeping n e g = g

      way_none : (w : Manner) → torn_way w (length x.memory) x.journal x.mark ≡ false → NoneApplies ls → NoneApplies (lines w)
      way_none Dropping e g = (no_torn_way (length x.memory) x.journal x.mark e, g)
      way_none Keeping e g = g

    module _ (x : Machine) (valid : Valid x.slots x.memory) (fits : BoardFits x.board x.memory) (lent : JournalLent w x.journal) (inside : x.mark ≤ length x.journal) where
      one_accepted : no_room w x.journal x.mark ≡ false → torn_way w (length x.memory) x.journal x.mark ≡ false → (mode_of x.slots ≡ 2 → ⊥) → (stepping w 0 0 x).a.number ≡ 0
      one_accepted free whole runs =
          step_call_number w x.board x.slots x.memory 0 x.journal x.mark 0
          ∙ step_number_when w x.board x.slots x.memory 0 x.journal x.mark valid.fits (state_fits_when x.slots x.memory valid) fits (omega arith) inside free runs whole

      module _ (ok : (stepping w 0 0 x).a.number ≡ 0) where
        one_valid : Valid (one x).slots (one x).memory
        one_valid = rw (act_step w plain x ok) (valid_after plain (seen_at w x) valid)

        one_fits : BoardFits (one x).board (one x).memory
        one_fits = rw (act_step w plain x ok) (board_after plain (seen_at w x) valid fits)

        one_lent : JournalLent w (one x).journal
        one_lent = journal_lent_after w plain x (lent_when_valid x.slots x.memory valid) lent ok

        one_inside : (one x).mark ≤ length (one x).journal
        unfolding one_more
        one_inside =
            let l = lent_when_valid x.slots x.memory valid in
            let room = step_room w plain x l lent ok in
            let same = length_written (room_at w x).j (room_at w x).a.mark (record_after plain (seen_at w x)) room in
            rw (act_step w plain x ok) (omega (arith, room, same))

      abbrev there_line : Line
      there_line = record { number = 5; applies = pc_of x.slots ≡ stop }

      ran_on : (k n t v u : ℕ) → n + suc k ≡ budget
          → ((y : Machine) (t v u : ℕ) → Valid y.slots y.memory → BoardFits y.board y.memory → JournalLent w y.journal → y.mark ≤ length y.journal → Ran budget stop (n + 1) t v u y (left k (n + 1) t v u y))
          → Ran budget stop n t v u x (left (suc k) n t v u x)
      unfolding running
      ran_on k n t v u e next =
          go (eqb (mode_of x.slots) 2) refl (eqb (mode_of x.slots) 1) refl (no_room w x.journal x.mark) refl
          (torn_way w (length x.memory) x.journal x.mark) refl (eqb (pc_of x.slots) stop) refl
        where
          spent : n ≡ budget → ⊥
          spent q = omega arith

          go : (a : Bool) → eqb (mode_of x.slots) 2 ≡ a → (b : Bool) → eqb (mode_of x.slots) 1 ≡ b → (c : Bool) → no_room w x.journal x.mark ≡ c
              → (f : Bool) → torn_way w (length x.memory) x.journal x.mark ≡ f → (d : Bool) → eqb (pc_of x.slots) stop ≡ d
              → Ran budget stop n t v u x (left (suc k) n t v u x)
          go true p b q c r f o d s =
              let halted = eqb-true (mode_of x.slots) 2 p in
              rw p (here 2 n t v u x (omega arith) (later spent (this halted refl)) (λ z. omega arith))
          go false p true q c r f o d s =
              let stopped = eqb-true (mode_of x.slots) 1 q in
              rw (p, q) (here 3 n t v u x (omega arith) (later spent (later (eqb-false (mode_of x.slots) 2 p) (this stopped refl))) (λ z. omega arith))
          go false p false q true r f o d s =
              rw (p, q, r)
              (here 4 n t v u x (omega arith)
              (later spent (later (eqb-false (mode_of x.slots) 2 p) (later (eqb-false (mode_of x.slots) 1 q) (this (room_gone w x.journal x.mark r) refl)))) (λ z. omega arith))
          go false p false q false r true o d s =
              rw (p, q, r, o)
              (here 6 n t v u x (omega arith)
              (later spent (later (eqb-false (mode_of x.slots) 2 p) (later (eqb-false (mode_of x.slots) 1 q) (later (room_free w x.journal x.mark r) (way_this x 6 (there_line ∷ []) w o)))))
              (λ z. omega arith))
          go false p false q false r false o true s =
              let there = eqb-true (pc_of x.slots) stop s in
              rw (p, q, r, o, s)
              (here 5 n t v u x (omega arith)
              (later spent
              (later (eqb-false (mode_of x.slots) 2 p)
              (later (eqb-false (mode_of x.slots) 1 q)
              (later (room_free w x.journal x.mark r) (way_later x 6 (there_line ∷ []) w 5 o (this there refl))))))
              (λ z. omega arith))
          go false p false q false r false o false s =
              let runs = eqb-false (mode_of x.slots) 2 p in
              let ok = one_accepted r o runs in
              let c = step_with_room w x.board x.slots x.memory 0 0 x.journal x.mark in
              let d = step_accepted w x.board x.slots x.memory 0 x.journal x.mark 0 ok in
              let told = (stepping w 0 0 x).a in
              let rest = running w x.board k (n + 1) (t + c.a.clocks) (v + c.a.moved) (u + c.a.dropped) stop c.s c.m c.j c.a.mark in
              let same : left k (n + 1) (t + told.clocks) (v + told.moved) (u + told.dropped) (one x) ≡ rest =
              ap (left k (n + 1) (t + told.clocks) (v + told.moved) (u + told.dropped)) (one_taken x ok)
              ∙ ap (λ (o : StepCall). running w x.board k (n + 1) (t + o.a.clocks) (v + o.a.moved) (u + o.a.dropped) stop c.s c.m c.j c.a.mark) d in
              let then : Ran budget stop (n + 1) (t + told.clocks) (v + told.moved) (u + told.dropped) (one x) rest =
              subst (Ran budget stop (n + 1) (t + told.clocks) (v + told.moved) (u + told.dropped) (one x)) same
              (next (one x) (t + told.clocks) (v + told.moved) (u + told.dropped) (one_valid ok) (one_fits ok) (one_lent ok) (one_inside ok)) in
              rw (p, q, r, o, s)
              (onward n t v u x rest ok
              (spent, (runs, (eqb-false (mode_of x.slots) 1 q, (room_free w x.journal x.mark r, way_none x 6 (there_line ∷ []) w o (eqb-false (pc_of x.slots) stop s, tt))))) then)

    ran : (k n t v u : ℕ) (x : Machine) → n + k ≡ budget → Valid x.slots x.memory → BoardFits x.board x.memory → JournalLent w x.journal → x.mark ≤ length x.journal → Ran budget stop n t v u x (left k n t v u x)
    unfolding running
    ran zero n t v u x e valid fits lent h = here 1 n t v u x (omega arith) (this (omega arith) refl) (λ z. omega arith)
    ran (suc k) n t v u x e valid fits lent h = ran_on x valid fits lent h k n t v u e (λ y t v u f g i l. ran k (n + 1) t v u y (omega arith) f g i l)

  -- ---- the law
  pub record AsSteps (budget stop : ℕ) (x : Machine) (n : ℕ) : Type 1 where
    pub same : act w (run_of budget stop) x ≡ iter one n x
    pub accepted : (i : ℕ) → i < n → (stepping w 0 0 (iter one i x)).a.number ≡ 0
    pub clocks : (running_on w budget stop x).a.clocks ≡ clocks_in n x
    pub moved : (running_on w budget stop x).a.moved ≡ capped (moved_in n x)
    pub dropped : (running_on w budget stop x).a.dropped ≡ dropped_in n x
    pub within : n ≤ budget
    pub before : (i : ℕ) → i < n → NoneApplies (reasons_at budget stop i (iter one i x))
    pub reason : Given (reasons_at budget stop n (iter one n x)) (running_on w budget stop x).a.reason
    pub given : (running_on w budget stop x).a.reason ≡ 0 → ⊥

  as_steps : (budget stop : ℕ) (x : Machine) (c : RunCall) → running_on w budget stop x ≡ c → Ran budget stop 0 0 0 0 x c → AsSteps budget stop x (running_on w budget stop x).a.steps
  unfolding act
  as_steps budget stop x c is r =
      let from_0 : (i : ℕ) → 0 + i ≡ i = λ i. omega arith in
      let steps : r.done ≡ (running_on w budget stop x).a.steps = rw is (sym (r.steps ∙ from_0 r.done)) in
      let all : AsSteps budget stop x r.done =
      record {
        same = ap (machine_of x.board) is ∙ r.same;
        accepted = r.accepted;
        clocks = rw is (r.clocks ∙ from_0 (clocks_in r.done x));
        moved = rw is (r.moved ∙ ap capped (from_0 (moved_in r.done x)));
        dropped = rw is (r.dropped ∙ from_0 (dropped_in r.done x));
        within = omega (arith, r.within);
        before = λ i l. subst (λ (b : ℕ). NoneApplies (reasons_at budget stop b (iter one i x))) (from_0 i) (r.before i l);
        reason = rw is (subst (λ (b : ℕ). Given (reasons_at budget stop b (iter one r.done x)) c.a.reason) (from_0 r.done) r.reason);
        given = rw is r.given;
      } in
      subst (AsSteps budget stop x) steps all

  run_accepted_inv : (budget stop : ℕ) (x : Machine) → (running_on w budget stop x).a.number ≡ 0 → (memory_fits x.memory ≡ true) × (state_fits x.slots ≡ true) × (budget ≤ 1000000) × (x.mark ≤ length x.journal) × (BoardFits x.board x.memory)
  run_accepted_inv budget stop x e =
      run_inv x.board x.slots x.memory budget x.journal x.mark (sym (run_call_number x.board x.slots x.memory budget x.journal x.mark w stop) ∙ e)

  pub run_as_steps : (budget stop : ℕ) (x : Machine) → Lent x.slots x.memory → JournalLent w x.journal → (running_on w budget stop x).a.number ≡ 0
      → AsSteps budget stop x (running_on w budget stop x).a.steps
  run_as_steps budget stop x lent journal e =
      let inv = run_accepted_inv budget stop x e in
      as_steps budget stop x (running w x.board budget 0 0 0 0 stop x.slots x.memory x.journal x.mark) (run_accepted x.board x.slots x.memory budget x.journal x.mark w stop e)
      (ran budget stop budget 0 0 0 0 x (omega arith) (valid_when_accepted x.slots x.memory lent inv.0 inv.1) inv.4 journal inv.3)

  -- ---- the memory that a run leaves: a byte that is in the record of none of its steps is as it was
  steps_lent : (x : Machine) → Lent x.slots x.memory → (stepping w 0 0 x).a.number ≡ 0 → Lent (one x).slots (one x).memory
  steps_lent x lent ok = rw (act_step w plain x ok) (lent_after plain (seen_at w x) (step_valid w 0 0 x lent ok))

  pub steps_memory : (n : ℕ) (x : Machine) → Lent x.slots x.memory → ((i : ℕ) → i < n → (stepping w 0 0 (iter one i x)).a.number ≡ 0)
      → (a : ℕ) → ((i : ℕ) → i < n → NotAmong a (diffs 0 (iter one i x).memory (iter one (suc i) x).memory)) → get_or (iter one n x).memory a 0 ≡ get_or x.memory a 0
  unfolding iter
  steps_memory zero x lent ok a h = refl
  steps_memory (suc n) x lent ok a h =
      let first = ok 0 (omega arith) in
      steps_memory n (one x) (steps_lent x lent first) (λ i l. ok (suc i) (omega arith)) a (λ i l. h (suc i) (omega arith))
      ∙ (step_memory w plain x lent first).2 a (h 0 (omega arith))

  pub run_memory : (budget stop : ℕ) (x : Machine) → Lent x.slots x.memory → JournalLent w x.journal → (running_on w budget stop x).a.number ≡ 0
      → (a : ℕ) → ((i : ℕ) → i < (running_on w budget stop x).a.steps → NotAmong a (diffs 0 (iter one i x).memory (iter one (suc i) x).memory))
      → get_or (act w (run_of budget stop) x).memory a 0 ≡ get_or x.memory a 0
  run_memory budget stop x lent journal e a h =
      let s = run_as_steps budget stop x lent journal e in
      rw s.same (steps_memory (running_on w budget stop x).a.steps x lent s.accepted a h)

-- ---- the journal that a run leaves where all records are kept
pub steps_frame : (n : ℕ) (x : Machine) → Lent x.slots x.memory → x.mark ≤ length x.journal → ((i : ℕ) → i < n → (stepping Keeping 0 0 (iter (one Keeping) i x)).a.number ≡ 0)
    → Framed x (iter (one Keeping) n x)
unfolding iter
steps_frame zero x lent h ok = framed_refl x h
steps_frame (suc n) x lent h ok =
    let first = ok 0 (omega arith) in
    let f = (step_frame plain x lent first).0 in
    framed_trans x (one Keeping x) (iter (one Keeping) n (one Keeping x)) f
    (steps_frame n (one Keeping x) (steps_lent Keeping x lent first) (omega (arith, f.inside, f.same_length)) (λ i l. ok (suc i) (omega arith)))

pub run_frame : (budget stop : ℕ) (x : Machine) → Lent x.slots x.memory → (running_on Keeping budget stop x).a.number ≡ 0 → Framed x (act Keeping (run_of budget stop) x)
run_frame budget stop x lent e =
    let a = run_as_steps Keeping budget stop x lent tt e in
    rw a.same (steps_frame (running_on Keeping budget stop x).a.steps x lent (run_accepted_inv Keeping budget stop x e).3 a.accepted)
