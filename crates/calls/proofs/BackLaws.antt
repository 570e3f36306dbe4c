-- BackLaws.antt - what going back rests on in either manner: the undo of one step, and what a whole history keeps.
-- * undoing_to: the undo of a step whose record ends the journal below the mark is accepted and leads to where the step started.
-- * history_at: what an accepted step and an accepted undo keep, of the machine and the steps that stand, any mix of calls keeps.
-- Source: [00 demand 3], [01 The journal].
use Prim.Native.Nat.{ℕ, zero, suc, ◌+◌, ◌≤◌, ◌<◌}
use mathlib.Core.Path.{◌≡◌, refl, sym, ap, subst, ◌∙◌}
use mathlib.Core.Bool.{Bool, true, false}
use mathlib.Core.List.{List, [], ◌∷◌, ◌++◌, reverse}
use native.Mathlib.Omega.{arith}
use lib.ListN.{length}
use lib.Dec.{eqb}
use borrow.Author.Tests.{eqb-true, eqb-false}
use Rattle.bits.specs.Bits.{iter}
use Rattle.numbers.specs.Number.{written, back}
use Rattle.numbers.proofs.WrittenLaws.{back_written, length_written}
use Rattle.step.specs.Steps.{one_step}
use Rattle.undo.specs.Undo.{undo_of}
use Rattle.std.specs.Prelude.{Some}
use Rattle.undo.proofs.UndoLaws.{undo_of_record, undo_by_back}
use Rattle.calls.specs.declared.Manner.{Manner}
use Rattle.calls.specs.Calls.{RunCall}
use Rattle.calls.specs.History.{Machine, Request, Call, step_of, run_of, undo_once, stepping, running_on, undoing, act, Calls, machine_calls}
use Rattle.calls.specs.History.{after, accepted, undone, NeverAhead, plain_step, left_by, standing, Seen, record_after, one_more}
use Rattle.calls.specs.Kept.{EachCall}
use Rattle.calls.proofs.ValidLaws.{BoardFits, Lent, Valid, kept_by, state_fits_when, small_enough}
use Rattle.calls.proofs.JournalLaws.{JournalLent}
use Rattle.calls.proofs.RefusalLaws.{run_refused, undo_accepted, undo_number_when}
use Rattle.calls.proofs.ActLaws.{machine_at, act_step_refused, act_run_refused, act_undo_refused, valid_after, board_after, record_after_some}
use Rattle.calls.proofs.RunLaws.{one, plain, AsSteps, run_as_steps}

pub mark_after : (r : Request) (a : Seen) → (one_more r a).mark ≡ a.mark + length (record_after r a)
unfolding one_more
mark_after r a = refl

-- ---- the undo of one step whose record ends the journal
module _ (r : Request) (a : Seen) (v : Valid a.slots a.memory) (o : BoardFits a.board a.memory) (j : List ℕ)
    (room : (one_more r a).mark ≤ length j) (last : back j (one_more r a).mark ≡ reverse (record_after r a) ++ back j a.mark) where
  undone_to : undo_of (one_more r a).slots (one_more r a).memory j (one_more r a).mark
      ≡ record { slots = a.slots; memory = a.memory; answer = Some a.mark }
  unfolding one_more record_after
  undone_to =
      let t = one_step a.board a.slots a.memory r.level r.vector in
      let b = record_after r a in
      let k = kept_by a.board a.slots a.memory r.level r.vector v in
      let small = small_enough a.slots a.memory v in
      undo_by_back t.s t.m j (written j a.mark b) (a.mark + length b) room (rw (length_written j a.mark b room) room)
      (last ∙ sym (back_written j a.mark b room))
      ∙ undo_of_record a.slots t.s a.memory t.m j a.mark v.slots (sym k.slots) (sym k.memory)
      (omega (arith, k.memory, small)) k.few v.values v.bytes room

  -- it is accepted
  pub undoing_to : undoing (machine_at (one_more r a) j) ≡ record { s = a.slots; m = a.memory; a = record { number = 0; mark = a.mark } }
  undoing_to =
      let w = valid_after r a v in
      let fits = state_fits_when (one_more r a).slots (one_more r a).memory w in
      let some : (one_more r a).mark ≡ 0 → ⊥ = λ e. omega (arith, mark_after r a, record_after_some r a) in
      undo_accepted (one_more r a).board (one_more r a).slots (one_more r a).memory j (one_more r a).mark a.mark a.slots a.memory
      (undo_number_when (one_more r a).board (one_more r a).slots (one_more r a).memory j (one_more r a).mark w.fits fits (board_after r a v o) room some)
      undone_to

-- ---- any call at all
pub any_calls : (w : Manner) (cs : List Call) (x : Machine) → EachCall w (λ c y. Unit {0}) cs x
any_calls w [] x = tt
any_calls w (c ∷ cs) x = (tt, any_calls w cs (act w c x))

-- ---- an invariant of a machine and the steps that stand, kept by an accepted step and by an accepted undo, is kept by any history
-- (P: what is so of each call of the history)
module _ (w : Manner) (P : Call → Machine → Type 0) (At : Machine → List Request → Type 0)
    (lent_at_lem : (x : Machine) (rs : List Request) → At x rs → Lent x.slots x.memory × JournalLent w x.journal)
    (step_at : (x : Machine) (rs : List Request) → At x rs → (r : Request) → (stepping w r.level r.vector x).a.number ≡ 0
    → P (step_of r.level r.vector) x → At (act w (step_of r.level r.vector) x) (r ∷ rs))
    (run-steps : (budget stop : ℕ) (x : Machine) → AsSteps w budget stop x (running_on w budget stop x).a.steps → P (run_of budget stop) x
    → (i : ℕ) → i < (running_on w budget stop x).a.steps → P (step_of 0 0) (iter (one w) i x))
    (undo_at : (x : Machine) (r : Request) (rs : List Request) → At x (r ∷ rs) → (undoing x).a.number ≡ 0 → At (act w undo_once x) rs) where
  abbrev calls : Calls Machine
  calls = machine_calls w

  -- steps in a row, as a run takes them
  steps_at : (n : ℕ) (x : Machine) (rs : List Request) → At x rs → ((i : ℕ) → i < n → (stepping w 0 0 (iter (one w) i x)).a.number ≡ 0)
      → ((i : ℕ) → i < n → P (step_of 0 0) (iter (one w) i x)) → At (iter (one w) n x) (iter plain_step n rs)
  unfolding iter
  steps_at zero x rs a ok p = a
  steps_at (suc n) x rs a ok p =
      steps_at n (one w x) (plain ∷ rs) (step_at x rs a plain (ok 0 (omega arith)) (p 0 (omega arith)))
      (λ i l. ok (suc i) (omega arith)) (λ i l. p (suc i) (omega arith))

  run_at : (budget stop : ℕ) (x : Machine) (rs : List Request) → At x rs → (running_on w budget stop x).a.number ≡ 0 → P (run_of budget stop) x
      → At (act w (run_of budget stop) x) (iter plain_step (running_on w budget stop x).a.steps rs)
  run_at budget stop x rs a e p =
      let n = (running_on w budget stop x).a.steps in
      let l = lent_at_lem x rs a in
      let s = run_as_steps w budget stop x l.0 l.1 e in
      subst (λ (y : Machine). At y (iter plain_step n rs)) (sym s.same) (steps_at n x rs a s.accepted (run-steps budget stop x s p))

  length_plain : (n : ℕ) (rs : List Request) → length (iter plain_step n rs) ≡ n + length rs
  unfolding iter
  length_plain zero rs = omega arith
  length_plain (suc n) rs = length_plain n (plain ∷ rs) ∙ omega arith

  -- one call of a history: what stands, and how many
  abbrev Counted : Call → Machine → List Request → ℕ → ℕ → Type 0
  Counted c x rs n u = At (act w c x) (left_by calls c x rs) × (n + accepted calls c x ≡ u + undone calls c x + length (left_by calls c x rs))

  call_at : (c : Call) (x : Machine) (rs : List Request) (n u : ℕ) → At x rs → n ≡ u + length rs → u + undone calls c x ≤ n + accepted calls c x
      → P c x → Counted c x rs n u
  unfolding accepted undone left_by iter
  call_at (step_of level vector) x rs n u a e h p = go (eqb (stepping w level vector x).a.number 0) refl
    where
      go : (b : Bool) → eqb (stepping w level vector x).a.number 0 ≡ b → Counted (step_of level vector) x rs n u
      go true q =
          rw q (step_at x rs a (record { level = level; vector = vector }) (eqb-true (stepping w level vector x).a.number 0 q) p, omega arith)
      go false q = rw (q, act_step_refused w level vector x (eqb-false (stepping w level vector x).a.number 0 q)) (a, omega arith)
  call_at (run_of budget stop) x rs n u a e h p = go (eqb (running_on w budget stop x).a.number 0) refl
    where
      go : (b : Bool) → eqb (running_on w budget stop x).a.number 0 ≡ b → Counted (run_of budget stop) x rs n u
      go true q =
          let taken = eqb-true (running_on w budget stop x).a.number 0 q in
          (run_at budget stop x rs a taken p, omega (arith, length_plain (running_on w budget stop x).a.steps rs))
      go false q =
          let refused = eqb-false (running_on w budget stop x).a.number 0 q in
          let none_taken : (running_on w budget stop x).a.steps ≡ 0 =
          ap (λ (c : RunCall). c.a.steps) (run_refused x.board x.slots x.memory budget x.journal x.mark w stop refused) in
          rw (none_taken, act_run_refused w budget stop x refused) (a, omega arith)
  call_at undo_once x rs n u a e h p = go (eqb (undoing x).a.number 0) refl rs a e
    where
      go : (b : Bool) → eqb (undoing x).a.number 0 ≡ b → (rs : List Request) → At x rs → n ≡ u + length rs → Counted undo_once x rs n u
      go true q [] a e = absurd (let z = rw q at h in omega arith)
      go true q (r ∷ rs) a e = rw q (undo_at x r rs a (eqb-true (undoing x).a.number 0 q), omega arith)
      go false q rs a e = rw (q, act_undo_refused w x (eqb-false (undoing x).a.number 0 q)) (a, omega arith)

  first_point : (cs : List Call) (x : Machine) (n u : ℕ) → NeverAhead calls cs x n u → u ≤ n
  first_point [] x n u h = h
  first_point (c ∷ cs) x n u h = h.0

  pub history_at : (cs : List Call) (x : Machine) (rs : List Request) (n u : ℕ) → At x rs → n ≡ u + length rs → NeverAhead calls cs x n u
      → EachCall w P cs x → At (after calls cs x) (standing calls cs x rs)
  history_at [] x rs n u a e h p = a
  history_at (c ∷ cs) x rs n u a e h p =
      let next = call_at c x rs n u a e (first_point cs (act w c x) (n + accepted calls c x) (u + undone calls c x) h.1) p.0 in
      history_at cs (act w c x) (left_by calls c x rs) (n + accepted calls c x) (u + undone calls c x) next.0 next.1 h.1 p.1
