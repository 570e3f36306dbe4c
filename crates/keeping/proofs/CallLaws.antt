-- CallLaws.antt - the laws that the calls cite: what each public call promises.
-- step_may, step_promised, step_refused_promised; run_may, run_promised, run_refused_promised.
-- Uses: bus, record, refusals, calls.
use Prim.Native.Nat.{ℕ, ◌+◌, ◌-◌, ◌≤◌}
use native.Mathlib.Omega.{arith}
use mathlib.Core.Path.{◌≡◌, sym, ap, ◌∙◌}
use mathlib.Core.Bool.{true, false}
use mathlib.Core.List.{List}
use lib.ListN.{length}
use lib.Dec.{eqb}
use borrow.Author.Tests.{ltb-false, ne_eqb}
use Rattle.std.specs.Prelude.{Result, Ok, Err}
use Rattle.codes.specs.Codes.{MostSteps}
use Rattle.bus.specs.Bus.{Board}
use Rattle.record.specs.Limits.{longest_record}
use Rattle.refusals.specs.declared.Refusal.{Refusal}
use Rattle.refusals.specs.Refusals.{refusal_number, number_given}
use Rattle.refusals.proofs.NumberLaws.{refusal_some}
use Rattle.calls.specs.declared.StepAnswer.{StepAnswer}
use Rattle.calls.specs.declared.RunAnswer.{RunAnswer}
use Rattle.calls.specs.Promises.{StepPromise, RunPromise}
use Rattle.calls.proofs.RefusalLaws.{tests_inv, run_inv}
use Rattle.calls.specs.declared.Manner.TheVariants.{Keeping}
use Rattle.calls.specs.Calls.{StepCall, RunCall, memory_fits, state_fits, step_tests, step_number, step_taken, step_with_room, step_call}
use Rattle.calls.specs.Calls.{run_number, running, run_call}

-- the public step: k is its judgment
module _ {A : Type 0} (board : Board) (s m : List ℕ) (level vector : ℕ) (j : List ℕ) (mark : ℕ) (k : Result A Refusal) (e : number_given k ≡ step_tests Keeping board s m level j mark 0) where
  module _ (y : A) (z : k ≡ Ok y) where
    accepted : step_tests Keeping board s m level j mark 0 ≡ 0
    accepted = sym e ∙ ap number_given z

    pub step_may : (memory_fits m ≡ true) × (mark + longest_record ≤ length j) × (state_fits s ≡ true)
    step_may =
        let q = tests_inv Keeping board s m level j mark 0 accepted in
        (q.0, (let a = q.3 in let b = ltb-false (length j - mark) longest_record q.4 in omega arith), q.1)

    called : step_taken board s m level vector j mark ≡ step_call Keeping board s m level vector j mark
    unfolding step_call step_with_room step_number step_taken
    called = rw accepted

    pub step_promised : (x : ℕ) → x ≡ vector → (s₁ m₁ j₁ : List ℕ) (a : StepAnswer) → s₁ ≡ (step_taken board s m level x j mark).s → m₁ ≡ (step_taken board s m level x j mark).m → j₁ ≡ (step_taken board s m level x j mark).j
        → a ≡ (step_taken board s m level x j mark).a → StepPromise Keeping board s m level vector j mark s₁ m₁ j₁ a
    step_promised x d s₁ m₁ j₁ a p q r t =
        let c : step_taken board s m level x j mark ≡ step_call Keeping board s m level vector j mark = ap (λ (y : ℕ). step_taken board s m level y j mark) d ∙ called in
        record {
          slots = p ∙ ap (λ (c : StepCall). c.s) c;
          memory = q ∙ ap (λ (c : StepCall). c.m) c;
          journal = r ∙ ap (λ (c : StepCall). c.j) c;
          answer = t ∙ ap (λ (c : StepCall). c.a) c;
        }

  pub step_refused_promised : (r : Refusal) (a : StepAnswer) → k ≡ Err r → a ≡ record { number = refusal_number r; event = 0; mark = mark; clocks = 0; moved = 0; dropped = 0 } → StepPromise Keeping board s m level vector j mark s m j a
  unfolding step_call step_number
  step_refused_promised r a z q =
      let n : refusal_number r ≡ step_tests Keeping board s m level j mark 0 = ap number_given (sym z) ∙ e in
      let y : eqb (step_tests Keeping board s m level j mark 0) 0 ≡ false = ap (λ (i : ℕ). eqb i 0) (sym n) ∙ ne_eqb (refusal_number r) 0 (refusal_some r) in
      record { slots = rw y; memory = rw y; journal = rw y; answer = q ∙ rw (y, n) }

-- the public run
module _ {A : Type 0} (board : Board) (s m : List ℕ) (budget stop : ℕ) (j : List ℕ) (mark : ℕ) (k : Result A Refusal) (e : number_given k ≡ run_number board s m budget j mark) where
  module _ (y : A) (z : k ≡ Ok y) where
    run_zero : run_number board s m budget j mark ≡ 0
    run_zero = sym e ∙ ap number_given z

    pub run_may : (memory_fits m ≡ true) × (mark ≤ length j) × (state_fits s ≡ true) × (budget ≤ MostSteps)
    run_may = let q = run_inv board s m budget j mark run_zero in (q.0, q.3, q.1, q.2)

    run_called : running Keeping board budget 0 0 0 0 stop s m j mark ≡ run_call Keeping board s m budget stop j mark
    unfolding run_call
    run_called = rw run_zero

    pub run_promised : (s₁ m₁ j₁ : List ℕ) (a : RunAnswer) → s₁ ≡ (running Keeping board budget 0 0 0 0 stop s m j mark).s → m₁ ≡ (running Keeping board budget 0 0 0 0 stop s m j mark).m → j₁ ≡ (running Keeping board budget 0 0 0 0 stop s m j mark).j
        → a ≡ (running Keeping board budget 0 0 0 0 stop s m j mark).a → RunPromise Keeping board s m budget stop j mark s₁ m₁ j₁ a
    run_promised s₁ m₁ j₁ a p q r t =
        record {
          slots = p ∙ ap (λ (c : RunCall). c.s) run_called;
          memory = q ∙ ap (λ (c : RunCall). c.m) run_called;
          journal = r ∙ ap (λ (c : RunCall). c.j) run_called;
          answer = t ∙ ap (λ (c : RunCall). c.a) run_called;
        }

  pub run_refused_promised : (r : Refusal) (a : RunAnswer) → k ≡ Err r → a ≡ record { number = refusal_number r; reason = 0; mark = mark; steps = 0; clocks = 0; moved = 0; dropped = 0 } → RunPromise Keeping board s m budget stop j mark s m j a
  unfolding run_call
  run_refused_promised r a z q =
      let n : refusal_number r ≡ run_number board s m budget j mark = ap number_given (sym z) ∙ e in
      let y : eqb (run_number board s m budget j mark) 0 ≡ false = ap (λ (i : ℕ). eqb i 0) (sym n) ∙ ne_eqb (refusal_number r) 0 (refusal_some r) in
      record { slots = rw y; memory = rw y; journal = rw y; answer = q ∙ rw (y, n) }
