-- FirstLaws.antt - a run that drops records begins as one that keeps them all: until room is short the two are the same.
-- first_steps; run_may, full_may; run_alike_promised, run_full_promised, run_refused_promised.
-- Uses: bits, bus, bank, record, refusals, oldest, step, calls, keeping.
use Prim.Native.Nat.{ℕ, zero, suc, ◌+◌, ◌-◌, ◌*◌, ◌≤◌, ◌<◌}
use native.Mathlib.Omega.{arith}
use mathlib.Core.Path.{◌≡◌, refl, sym, ap, subst, ◌∙◌}
use mathlib.Core.Bool.{Bool, true, false}
use mathlib.Core.Logic.{◌⊎◌, inl, inr}
use mathlib.Core.List.{List}
use lib.ListN.{length}
use lib.Dec.{ltb, leb, eqb}
use borrow.Author.Tests.{ltb-false, le-ltb, lt-ltb, ne_eqb}
use Rattle.std.specs.Prelude.{Result, Ok, Err}
use Rattle.codes.specs.Codes.{MostSteps}
use Rattle.bus.specs.Bus.{Board}
use Rattle.bank.specs.Bank.{pc_of, mode_of}
use Rattle.record.specs.Limits.{byte_limit, longest_record}
use Rattle.step.specs.Steps.{most_clocks}
use Rattle.refusals.specs.declared.Refusal.{Refusal}
use Rattle.refusals.specs.Refusals.{refusal_number, number_given}
use Rattle.refusals.proofs.NumberLaws.{refusal_some}
use Rattle.oldest.proofs.RoomLaws.{room_when_there}
use Rattle.calls.specs.declared.Manner.TheVariants.{Dropping, Keeping}
use Rattle.calls.specs.declared.RunAnswer.{RunAnswer}
use Rattle.calls.specs.Calls.{memory_fits, state_fits, step_taken, step_with_room, RunCall, run_number, ended, running, run_call}
use Rattle.calls.specs.Promises.{RunPromise}
use Rattle.calls.proofs.RefusalLaws.{run_inv}
use Rattle.keeping.specs.Loop.{Ends}

-- ---- the first steps
-- d is what is left of a run that drops records, o of one that keeps them, k of the budget left and n steps done: they are the same, or room
-- was found short, and the first goes on from there
data First (board : Board) (k n stop : ℕ) (d o : RunCall) : Type 0 where
  alike : (o.a.reason ≡ 4 → ⊥) → d ≡ o → First board k n stop d o
  full : o ≡ ended 4 o.a.steps o.a.clocks 0 0 o.s o.m o.j o.a.mark → n ≤ o.a.steps
      → d ≡ running Dropping board (k - (o.a.steps - n)) o.a.steps o.a.clocks 0 0 stop o.s o.m o.j o.a.mark → First board k n stop d o

first_at : (board : Board) (k n stop : ℕ) (d d₁ o o₁ : RunCall) → d ≡ d₁ → o ≡ o₁ → First board k n stop d₁ o₁ → First board k n stop d o
first_at board k n stop d d₁ o o₁ p q f = rw (p, q) f

-- one step done
first_later : (board : Board) (k n stop : ℕ) (d o : RunCall) → First board k (n + 1) stop d o → First board (suc k) n stop d o
first_later board k n stop d o (alike z e) = alike z e
first_later board k n stop d o (full is low e) =
    let same : k - (o.a.steps - (n + 1)) ≡ suc k - (o.a.steps - n) = omega arith in
    full is (omega arith) (e ∙ ap (λ (i : ℕ). running Dropping board i o.a.steps o.a.clocks 0 0 stop o.s o.m o.j o.a.mark) same)

-- where there is room, the step is the same
module _ (board : Board) (s m j : List ℕ) (mark : ℕ) where
  step_kept : step_with_room Keeping board s m 0 0 j mark ≡ step_taken board s m 0 0 j mark
  unfolding step_with_room step_taken
  step_kept = refl

  step_there : longest_record ≤ length j - mark → step_with_room Dropping board s m 0 0 j mark ≡ step_taken board s m 0 0 j mark
  unfolding step_with_room step_taken
  step_there h = rw (room_when_there (length m) j mark h)

  none : (step_taken board s m 0 0 j mark).a.moved ≡ 0
  unfolding step_taken
  none = refl

  gone : (step_taken board s m 0 0 j mark).a.dropped ≡ 0
  unfolding step_taken
  gone = refl

first_steps : (board : Board) (k n c stop : ℕ) (s m j : List ℕ) (mark : ℕ) → First board k n stop (running Dropping board k n c 0 0 stop s m j mark) (running Keeping board k n c 0 0 stop s m j mark)
unfolding running
first_steps board zero n c stop s m j mark = alike (λ q. omega arith) refl
first_steps board (suc k) n c stop s m j mark =
    go (eqb (mode_of s) 2) refl (eqb (mode_of s) 1) refl (ltb (length j - mark) longest_record) refl (eqb (pc_of s) stop) refl (λ c s m j mark. first_steps board k (n + 1) c stop s m j mark)
  where
    go : (a : Bool) → eqb (mode_of s) 2 ≡ a → (b : Bool) → eqb (mode_of s) 1 ≡ b → (f : Bool) → ltb (length j - mark) longest_record ≡ f → (d : Bool) → eqb (pc_of s) stop ≡ d
        → ((c : ℕ) (s m j : List ℕ) (mark : ℕ) → First board k (n + 1) stop (running Dropping board k (n + 1) c 0 0 stop s m j mark) (running Keeping board k (n + 1) c 0 0 stop s m j mark))
        → First board (suc k) n stop (running Dropping board (suc k) n c 0 0 stop s m j mark) (running Keeping board (suc k) n c 0 0 stop s m j mark)
    go true p b q f r d t ih = first_at board (suc k) n stop _ (ended 2 n c 0 0 s m j mark) _ (ended 2 n c 0 0 s m j mark) (rw p) (rw p) (alike (λ q. omega arith) refl)
    go false p true q f r d t ih = first_at board (suc k) n stop _ (ended 3 n c 0 0 s m j mark) _ (ended 3 n c 0 0 s m j mark) (rw (p, q)) (rw (p, q)) (alike (λ q. omega arith) refl)
    go false p false q true r d t ih =
        let same : suc k ≡ suc k - (n - n) = omega arith in
        first_at board (suc k) n stop _ (running Dropping board (suc k) n c 0 0 stop s m j mark) _ (ended 4 n c 0 0 s m j mark) refl (rw (p, q, r))
        (full refl (omega arith) (ap (λ (i : ℕ). running Dropping board i n c 0 0 stop s m j mark) same))
    go false p false q false r d t ih = there d t
      where
        room : longest_record ≤ length j - mark
        room = ltb-false (length j - mark) longest_record r

        long : ltb (length j) longest_record ≡ false
        long = le-ltb (length j) longest_record (let h = room in omega arith)

        there : (d : Bool) → eqb (pc_of s) stop ≡ d → First board (suc k) n stop (running Dropping board (suc k) n c 0 0 stop s m j mark) (running Keeping board (suc k) n c 0 0 stop s m j mark)
        there true t = first_at board (suc k) n stop _ (ended 5 n c 0 0 s m j mark) _ (ended 5 n c 0 0 s m j mark) (rw (p, q, long, r, t)) (rw (p, q, r, t)) (alike (λ q. omega arith) refl)
        there false t =
            let u = step_taken board s m 0 0 j mark in
            let none_moved : u.a.moved ≡ 0 = none board s m j mark in
            let none_dropped : u.a.dropped ≡ 0 = gone board s m j mark in
            first_at board (suc k) n stop _ (running Dropping board k (n + 1) (c + u.a.clocks) 0 0 stop u.s u.m u.j u.a.mark) _ (running Keeping board k (n + 1) (c + u.a.clocks) 0 0 stop u.s u.m u.j u.a.mark)
            (rw (p, q, long, r, t, step_there board s m j mark room, none_moved, none_dropped)) (rw (p, q, r, t, step_kept board s m j mark, none_moved, none_dropped))
            (first_later board k n stop _ _ (ih (c + u.a.clocks) u.s u.m u.j u.a.mark))

-- ---- the public run: k is its judgment
module _ {A : Type 0} (board : Board) (s m : List ℕ) (budget stop : ℕ) (j : List ℕ) (mark : ℕ) (k : Result A Refusal) (e : number_given k ≡ run_number board s m budget j mark) where
  pub run_refused_promised : (r : Refusal) (a : RunAnswer) → k ≡ Err r → a ≡ record { number = refusal_number r; reason = 0; mark = mark; steps = 0; clocks = 0; moved = 0; dropped = 0 } → RunPromise Dropping board s m budget stop j mark s m j a
  unfolding run_call
  run_refused_promised r a z q =
      let n : refusal_number r ≡ run_number board s m budget j mark = ap number_given (sym z) ∙ e in
      let y : eqb (run_number board s m budget j mark) 0 ≡ false = ap (λ (i : ℕ). eqb i 0) (sym n) ∙ ne_eqb (refusal_number r) 0 (refusal_some r) in
      record { slots = rw y; memory = rw y; journal = rw y; answer = q ∙ rw (y, n) }

  module _ (y : A) (z : k ≡ Ok y) where
    run_zero : run_number board s m budget j mark ≡ 0
    run_zero = sym e ∙ ap number_given z

    pub run_may : (memory_fits m ≡ true) × (mark ≤ length j) × (state_fits s ≡ true) × (budget ≤ MostSteps)
    run_may = let q = run_inv board s m budget j mark run_zero in (q.0, q.3, q.1, q.2)

    run_called : running Dropping board budget 0 0 0 0 stop s m j mark ≡ run_call Dropping board s m budget stop j mark
    unfolding run_call
    run_called = rw run_zero

    promised : (s₁ m₁ j₁ : List ℕ) (a : RunAnswer) (o : RunCall) → running Dropping board budget 0 0 0 0 stop s m j mark ≡ o → s₁ ≡ o.s → m₁ ≡ o.m → j₁ ≡ o.j → a ≡ o.a
        → RunPromise Dropping board s m budget stop j mark s₁ m₁ j₁ a
    promised s₁ m₁ j₁ a o is p q r t =
        let c = sym is ∙ run_called in
        record {
          slots = p ∙ ap (λ (c : RunCall). c.s) c;
          memory = q ∙ ap (λ (c : RunCall). c.m) c;
          journal = r ∙ ap (λ (c : RunCall). c.j) c;
          answer = t ∙ ap (λ (c : RunCall). c.a) c;
        }

    -- what the first steps gave
    abbrev o : RunCall
    o = running Keeping board budget 0 0 0 0 stop s m j mark

    module _ (s₁ m₁ j₁ l l₁ : List ℕ) (a : RunAnswer) (p : s₁ ≡ o.s) (q : m₁ ≡ o.m) (r : j₁ ≡ o.j) (t : a ≡ o.a) (ends : Ends budget s₁ m m₁ j j₁ l l₁ a) where
      same : record { s = s₁; m = m₁; j = j₁; a = a } ≡ o
      same = rw (p, q, r, t)

      here : First board budget 0 stop (running Dropping board budget 0 0 0 0 stop s m j mark) (record { s = s₁; m = m₁; j = j₁; a = a })
      here = subst (First board budget 0 stop (running Dropping board budget 0 0 0 0 stop s m j mark)) (sym same) (first_steps board budget 0 0 stop s m j mark)

      -- it goes on from there
      goes_on : a.reason ≡ 4 → running Dropping board budget 0 0 0 0 stop s m j mark ≡ running Dropping board (budget - a.steps) a.steps a.clocks 0 0 stop s₁ m₁ j₁ a.mark
      goes_on w = go here
        where
          go : First board budget 0 stop (running Dropping board budget 0 0 0 0 stop s m j mark) (record { s = s₁; m = m₁; j = j₁; a = a })
              → running Dropping board budget 0 0 0 0 stop s m j mark ≡ running Dropping board (budget - a.steps) a.steps a.clocks 0 0 stop s₁ m₁ j₁ a.mark
          go (alike z d) = absurd (z w)
          go (full is low d) =
              let n : budget - (a.steps - 0) ≡ budget - a.steps = omega arith in
              d ∙ ap (λ (i : ℕ). running Dropping board i a.steps a.clocks 0 0 stop s₁ m₁ j₁ a.mark) n

      -- what the steps on a full journal ask of budget and clocks
      pub full_may : (budget ≤ MostSteps) × (a.clocks ≤ most_clocks * a.steps)
      full_may = (run_may.3, ends.sum)

      pub run_full_promised : a.reason ≡ 4 → (s₂ m₂ j₂ : List ℕ) (b : RunAnswer) → let d = running Dropping board (budget - a.steps) a.steps a.clocks 0 0 stop s₁ m₁ j₁ a.mark in
          s₂ ≡ d.s → m₂ ≡ d.m → j₂ ≡ d.j → b ≡ d.a → RunPromise Dropping board s m budget stop j mark s₂ m₂ j₂ b
      run_full_promised w s₂ m₂ j₂ b x y z u = promised s₂ m₂ j₂ b _ (goes_on w) x y z u

      -- it ends there: another reason, or a journal that is too short altogether
      ended_there : (a.reason ≡ 4) × (length j₁ < longest_record) ⊎ (a.reason ≡ 4 → ⊥) → running Dropping board budget 0 0 0 0 stop s m j mark ≡ record { s = s₁; m = m₁; j = j₁; a = a }
      unfolding running
      ended_there w = go here w
        where
          go : First board budget 0 stop (running Dropping board budget 0 0 0 0 stop s m j mark) (record { s = s₁; m = m₁; j = j₁; a = a })
              → (a.reason ≡ 4) × (length j₁ < longest_record) ⊎ (a.reason ≡ 4 → ⊥) → running Dropping board budget 0 0 0 0 stop s m j mark ≡ record { s = s₁; m = m₁; j = j₁; a = a }
          go (alike z d) w = d
          go (full is low d) (inr w) = absurd (w (ap (λ (c : RunCall). c.a.reason) is))
          go (full is low d) (inl w) =
              let f = ends.full w.0 in
              let more : budget - a.steps ≡ suc (budget - (a.steps + 1)) = (let h = f.more in omega arith) in
              let small : ltb (length j₁) longest_record ≡ true = lt-ltb (length j₁) longest_record w.1 in
              goes_on w.0 ∙ rw (more, f.not_halted, f.not_stopped, small) (sym is)

      pub run_alike_promised : (a.reason ≡ 4) × (length j₁ < longest_record) ⊎ (a.reason ≡ 4 → ⊥) → RunPromise Dropping board s m budget stop j mark s₁ m₁ j₁ a
      run_alike_promised w = promised s₁ m₁ j₁ a _ (ended_there w) refl refl refl refl
