-- ClockLaws.antt - what the answers tell of clocks.
-- * step_tells_clocks: an accepted step tells its clocks by the definition; step_clocks_fit: at most most_clocks, refused or not.
-- * run_clocks_sum: an accepted run tells the sum of the clocks of its steps, taken alone by the definition.
-- * run_clocks_fit: at most most_clocks for each of its steps, so at most 204,000,000, which is below 2 to the 32nd; refused or not.
-- A refused call tells 0: step_refused and run_refused of RefusalLaws.
-- Uses: codes, step.  Source: [K2].
use Prim.Native.Nat.{ℕ, zero, suc, ◌+◌, ◌*◌, ◌≤◌, ◌<◌}
use mathlib.Core.Path.{◌≡◌, refl, ap, ◌∙◌}
use mathlib.Core.Bool.{Bool, true, false}
use mathlib.Core.List.{List}
use native.Mathlib.Omega.{arith}
use lib.ListN.{length}
use lib.Dec.{eqb}
use borrow.Author.Tests.{eqb-true}
use Rattle.codes.specs.Codes.{MostSteps}
use Rattle.bits.specs.Bits.{iter}
use Rattle.bits.proofs.BitsLaws.{pick_cases}
use Rattle.bus.specs.Bus.{Board}
use Rattle.bank.specs.Bank.{pc_of, mode_of}
use Rattle.step.specs.Steps.{one_step, most_clocks, step_clocks}
use Rattle.step.proofs.LargestLaws.{largest_step}
use Rattle.calls.specs.declared.StepAnswer.{StepAnswer}
use Rattle.calls.specs.declared.RunAnswer.{RunAnswer}
use Rattle.calls.specs.declared.Manner.{Manner}
use Rattle.calls.specs.Calls.{StepCall, RunCall, no_room, torn_way, step_number, step_taken, step_with_room, step_call}
use Rattle.calls.specs.Calls.{run_number, running, run_call}
use Rattle.calls.specs.History.{Machine, stepping, running_on, seen, one_more, clocks_alone}
use Rattle.calls.proofs.ValidLaws.{Lent}
use Rattle.calls.proofs.RefusalLaws.{step_accepted, run_inv}
use Rattle.calls.proofs.JournalLaws.{JournalLent}
use Rattle.calls.proofs.ActLaws.{room_at, act_step}
use Rattle.calls.proofs.RunLaws.{plain, one, clocks_in, run_as_steps}

-- ---- a step
pub step_tells_clocks : (w : Manner) (level vector : ℕ) (x : Machine) → (stepping w level vector x).a.number ≡ 0
    → (stepping w level vector x).a.clocks ≡ step_clocks x.board x.slots x.memory level vector
unfolding step_with_room step_taken
step_tells_clocks w level vector x ok =
    ap (λ (c : StepCall). c.a.clocks) (step_accepted w x.board x.slots x.memory level x.journal x.mark vector ok)

-- a step's answer: its clocks are at most those of the longest step
abbrev pub StepClocksFit : StepAnswer → Type 0
StepClocksFit a = a.clocks ≤ most_clocks

pub step_clocks_fit : (w : Manner) (level vector : ℕ) (x : Machine) → StepClocksFit (stepping w level vector x).a
unfolding step_call step_with_room step_taken
step_clocks_fit w level vector x =
    pick_cases (λ (c : StepCall). StepClocksFit c.a) (eqb (step_number w x.board x.slots x.memory level x.journal x.mark) 0)
    (largest_step x.board x.slots x.memory level vector) (omega arith)

-- ---- a run is the sum of its steps
-- the mark, which room may move, does not bear on clocks
alone_at : (board : Board) (n : ℕ) (s m : List ℕ) (i k : ℕ) → clocks_alone n (record { board = board; slots = s; memory = m; mark = i }) ≡ clocks_alone n (record { board = board; slots = s; memory = m; mark = k })
unfolding one_more
alone_at board zero s m i k = refl
alone_at board (suc n) s m i k =
    let t = one_step board s m 0 0 in
    let rest = alone_at board n t.s t.m (one_more (record { level = 0; vector = 0 }) (record { board = board; slots = s; memory = m; mark = i })).mark (one_more (record { level = 0; vector = 0 }) (record { board = board; slots = s; memory = m; mark = k })).mark in
    ap (λ (c : ℕ). step_clocks board s m 0 0 + c) rest

alone_after : (board : Board) (n : ℕ) (s m : List ℕ) (i k : ℕ)
    → clocks_alone n (one_more plain (record { board = board; slots = s; memory = m; mark = i })) ≡ clocks_alone n (one_more plain (record { board = board; slots = s; memory = m; mark = k }))
unfolding one_more
alone_after board n s m i k =
    let t = one_step board s m 0 0 in
    alone_at board n t.s t.m (one_more plain (record { board = board; slots = s; memory = m; mark = i })).mark (one_more plain (record { board = board; slots = s; memory = m; mark = k })).mark

steps_clocks : (w : Manner) (n : ℕ) (x : Machine) → ((i : ℕ) → i < n → (stepping w 0 0 (iter (one w) i x)).a.number ≡ 0) → clocks_in w n x ≡ clocks_alone n (seen x)
unfolding iter
steps_clocks w zero x ok = refl
steps_clocks w (suc n) x ok =
    let first = ok 0 (omega arith) in
    let told = step_tells_clocks w 0 0 x first in
    let moved = alone_after x.board n x.slots x.memory (room_at w x).a.mark x.mark in
    let rest = steps_clocks w n (one w x) (λ i l. ok (suc i) (omega arith)) ∙ ap (λ (y : Machine). clocks_alone n (seen y)) (act_step w plain x first) ∙ moved in
    λ i. told i + rest i

pub run_clocks_sum : (w : Manner) (budget stop : ℕ) (x : Machine) → Lent x.slots x.memory → JournalLent w x.journal → (running_on w budget stop x).a.number ≡ 0
    → (running_on w budget stop x).a.clocks ≡ clocks_alone (running_on w budget stop x).a.steps (seen x)
run_clocks_sum w budget stop x lent journal e =
    let s = run_as_steps w budget stop x lent journal e in
    s.clocks ∙ steps_clocks w (running_on w budget stop x).a.steps x s.accepted

-- ---- and it fits
-- what is left of a run, k of its budget, with n steps of c clocks done
abbrev Within : ℕ → ℕ → ℕ → RunCall → Type 0
Within k n c o = (n ≤ o.a.steps) × (o.a.steps ≤ n + k) × (o.a.clocks + most_clocks * n ≤ c + most_clocks * o.a.steps)

within : (w : Manner) (board : Board) (k n c v u stop : ℕ) (s m j : List ℕ) (mark : ℕ) → Within k n c (running w board k n c v u stop s m j mark)
unfolding running step_with_room step_taken
within w board zero n c v u stop s m j mark = omega arith
within w board (suc k) n c v u stop s m j mark =
    let t = step_with_room w board s m 0 0 j mark in
    let r = within w board k (n + 1) (c + t.a.clocks) (v + t.a.moved) (u + t.a.dropped) stop t.s t.m t.j t.a.mark in
    let W = Within (suc k) n c in
    pick_cases W (eqb (mode_of s) 2) (omega arith)
    (pick_cases W (eqb (mode_of s) 1) (omega arith)
    (pick_cases W (no_room w j mark) (omega arith)
    (pick_cases W (torn_way w (length m) j mark) (omega arith)
    (pick_cases W (eqb (pc_of s) stop) (omega arith) (omega (arith, r, largest_step board s m 0 0))))))

-- a run's answer: its clocks are at most those of so many steps, its steps at most a run's most, and so its clocks
abbrev pub RunClocksFit : RunAnswer → Type 0
RunClocksFit a = (a.clocks ≤ most_clocks * a.steps) × (a.steps ≤ MostSteps) × (a.clocks ≤ 204000000)

pub run_clocks_fit : (w : Manner) (budget stop : ℕ) (x : Machine) → RunClocksFit (running_on w budget stop x).a
unfolding run_call
run_clocks_fit w budget stop x = go (eqb (run_number x.board x.slots x.memory budget x.journal x.mark) 0) refl
  where
    go : (b : Bool) → eqb (run_number x.board x.slots x.memory budget x.journal x.mark) 0 ≡ b → RunClocksFit (running_on w budget stop x).a
    go true e =
        let zero-told = eqb-true (run_number x.board x.slots x.memory budget x.journal x.mark) 0 e in
        let inv = run_inv x.board x.slots x.memory budget x.journal x.mark zero-told in
        rw e (omega (arith, inv.2, within w x.board budget 0 0 0 0 stop x.slots x.memory x.journal x.mark))
    go false e = rw e (omega arith)
