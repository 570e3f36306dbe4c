-- LoopLaws.antt - the loop of a run: what is left of it, done now, gives the whole run's answer, and the sum of the clocks fits.
-- Going, going_start, going_again; going_spent and the four other reasons; going_requires, going_sum.
-- Uses: bits, bus, bank, record, step.
use Prim.Native.Nat.{ℕ, suc, ◌+◌, ◌-◌, ◌*◌, ◌≤◌, ◌<◌, ◌^◌}
use native.Mathlib.Omega.{arith}
use mathlib.Core.Path.{◌≡◌, refl, ap, ◌∙◌}
use mathlib.Core.Bool.{true, false}
use mathlib.Core.List.{List}
use lib.ListN.{length}
use lib.Dec.{ltb, leb, eqb}
use borrow.Author.Tests.{leb-true, leb-false, ltb-true, ltb-false}
use Rattle.codes.specs.Codes.{MostSteps}
use Rattle.bus.specs.Bus.{Board}
use Rattle.bank.specs.Bank.{pc_of, mode_of}
use Rattle.record.specs.Limits.{byte_limit, longest_record}
use Rattle.step.specs.Steps.{most_clocks, step_clocks}
use Rattle.step.proofs.LargestLaws.{largest_step}
use Rattle.calls.specs.declared.StepAnswer.{StepAnswer}
use Rattle.calls.specs.declared.RunAnswer.{RunAnswer}
use Rattle.taken.specs.Going.{GoesOn}
use Rattle.keeping.specs.Loop.{FoundFull, Ends}
use Rattle.calls.specs.declared.Manner.TheVariants.{Keeping}
use Rattle.calls.specs.Calls.{memory_fits, state_fits, step_taken, step_with_room, RunCall, ended, running}

-- at the loop's head, n steps of c clocks done: what is left of the run gives its answer, and a step can be taken
pub record Going (board : Board) (b stop : ℕ) (s₀ m₀ j₀ : List ℕ) (mark₀ : ℕ) (l₀ s m j : List ℕ) (mark : ℕ) (l : List ℕ) (n c : ℕ) : Type 0 where
  pub le : n ≤ b
  pub few : b ≤ MostSteps
  pub sum : c ≤ most_clocks * n
  pub rest : running Keeping board (b - n) n c 0 0 stop s m j mark ≡ running Keeping board b 0 0 0 0 stop s₀ m₀ j₀ mark₀
  pub state : state_fits s ≡ true
  pub memory : memory_fits m ≡ true
  pub same_memory : length m ≡ length m₀
  pub same_journal : length j ≡ length j₀
  pub same_log : length l ≡ length l₀
  pub room : byte_limit ≤ length l
  pub inside : mark ≤ length j

pub going_start : (board : Board) (b stop : ℕ) (s m j : List ℕ) (mark : ℕ) (l : List ℕ) → memory_fits m ≡ true → mark ≤ length j → byte_limit ≤ length l → state_fits s ≡ true → b ≤ MostSteps → Going board b stop s m j mark l s m j mark l 0 0
going_start board b stop s m j mark l f h k t few =
    record { le = omega arith; few = few; sum = omega arith; rest = (let e : b - 0 ≡ b = omega arith in rw e); state = t; memory = f; same_memory = refl; same_journal = refl; same_log = refl; room = k; inside = h }

module _ {board : Board} {b stop : ℕ} {s₀ m₀ j₀ : List ℕ} {mark₀ : ℕ} {l₀ s m j : List ℕ} {mark : ℕ} {l : List ℕ} {n c : ℕ}
    (i : Going board b stop s₀ m₀ j₀ mark₀ l₀ s m j mark l n c) where
  -- the run gives what is there now, and reason k
  abbrev Gives : ℕ → Type 0
  Gives k =
      let o = running Keeping board b 0 0 0 0 stop s₀ m₀ j₀ mark₀ in
      let a : RunAnswer = record { number = 0; reason = k; mark = mark; steps = n; clocks = c; moved = 0; dropped = 0 } in
      (s ≡ o.s) × ((m ≡ o.m) × ((j ≡ o.j) × ((a ≡ o.a) × Ends b s m₀ m j₀ j l₀ l a)))

  goes_on : GoesOn s m₀ m j₀ j l₀ l mark
  goes_on = record { state = i.state; memory = i.memory; same_memory = i.same_memory; same_journal = i.same_journal; same_log = i.same_log; inside = i.inside }

  gives_full : (k : ℕ) → (k ≡ 4 → FoundFull b s j (record { number = 0; reason = k; mark = mark; steps = n; clocks = c; moved = 0; dropped = 0 }))
      → ended k n c 0 0 s m j mark ≡ running Keeping board b 0 0 0 0 stop s₀ m₀ j₀ mark₀ → Gives k
  gives_full k f e =
      let goes : Ends b s m₀ m j₀ j l₀ l (record { number = 0; reason = k; mark = mark; steps = n; clocks = c; moved = 0; dropped = 0 }) =
      record { goes = goes_on; few = i.le; sum = i.sum; full = f } in
      (ap (λ (o : RunCall). o.s) e, (ap (λ (o : RunCall). o.m) e, (ap (λ (o : RunCall). o.j) e, (ap (λ (o : RunCall). o.a) e, goes))))

  gives : (k : ℕ) → (k ≡ 4 → ⊥) → ended k n c 0 0 s m j mark ≡ running Keeping board b 0 0 0 0 stop s₀ m₀ j₀ mark₀ → Gives k
  gives k f e = gives_full k (λ q. absurd (f q)) e

  pub going_spent : leb b n ≡ true → Gives 1
  unfolding running
  going_spent p = let z : b - n ≡ 0 = (let h : b ≤ n = leb-true b n p in omega arith) in gives 1 (λ q. omega arith) (rw z at i.rest)

  -- the sum with one more step's clocks
  summed : (a : StepAnswer) → a ≡ (step_taken board s m 0 0 j mark).a → c + a.clocks ≤ most_clocks * (n + 1)
  unfolding step_taken
  summed a e =
      let q : a.clocks ≡ step_clocks board s m 0 0 = ap (λ (a : StepAnswer). a.clocks) e in
      omega (arith, q, i.sum, largest_step board s m 0 0)

  -- it fits 32 bits
  pub going_sum : leb b n ≡ false → (a : StepAnswer) → a ≡ (step_taken board s m 0 0 j mark).a → c + a.clocks < 2 ^ 32
  going_sum p a e = let h : n < b = leb-false b n p in omega (arith, summed a e, i.few)

  module _ (p : leb b n ≡ false) where
    more : b - n ≡ suc (b - (n + 1))
    more = let h : n < b = leb-false b n p in omega arith

    now_left : running Keeping board (suc (b - (n + 1))) n c 0 0 stop s m j mark ≡ running Keeping board b 0 0 0 0 stop s₀ m₀ j₀ mark₀
    now_left = rw more at i.rest

    pub going_halted : eqb (mode_of s) 2 ≡ true → Gives 2
    unfolding running
    going_halted h = gives 2 (λ q. omega arith) (rw h at now_left)

    module _ (h2 : eqb (mode_of s) 2 ≡ false) where
      pub going_stopped : eqb (mode_of s) 1 ≡ true → Gives 3
      unfolding running
      going_stopped h = gives 3 (λ q. omega arith) (rw (h2, h) at now_left)

      module _ (h3 : eqb (mode_of s) 1 ≡ false) where
        pub going_full : ltb (length j - mark) longest_record ≡ true → Gives 4
        unfolding running
        going_full h =
            let low : n < b = leb-false b n p in
            gives_full 4 (λ q. record { more = low; not_halted = h2; not_stopped = h3; short = ltb-true (length j - mark) longest_record h }) (rw (h2, h3, h) at now_left)

        module _ (h4 : ltb (length j - mark) longest_record ≡ false) where
          pub going_there : eqb (pc_of s) stop ≡ true → Gives 5
          unfolding running
          going_there h = gives 5 (λ q. omega arith) (rw (h2, h3, h4, h) at now_left)

          module _ (h5 : eqb (pc_of s) stop ≡ false) (s₁ m₁ j₁ l₁ : List ℕ) (a : StepAnswer) (e1 : s₁ ≡ (step_taken board s m 0 0 j mark).s) (e2 : m₁ ≡ (step_taken board s m 0 0 j mark).m)
              (e3 : j₁ ≡ (step_taken board s m 0 0 j mark).j) (e4 : a ≡ (step_taken board s m 0 0 j mark).a) (g : GoesOn s₁ m m₁ j j₁ l l₁ a.mark) where
            going_rest : running Keeping board (b - (n + 1)) (n + 1) (c + a.clocks) 0 0 stop s₁ m₁ j₁ a.mark ≡ running Keeping board b 0 0 0 0 stop s₀ m₀ j₀ mark₀
            unfolding running step_with_room
            going_rest =
                let t = step_taken board s m 0 0 j mark in
                let q : running Keeping board (b - (n + 1)) (n + 1) (c + t.a.clocks) 0 0 stop t.s t.m t.j t.a.mark ≡ running Keeping board b 0 0 0 0 stop s₀ m₀ j₀ mark₀ =
                rw (h2, h3, h4, h5) at now_left in
                rw (e1, e2, e3, e4) q

            pub going_again : Going board b stop s₀ m₀ j₀ mark₀ l₀ s₁ m₁ j₁ a.mark l₁ (n + 1) (c + a.clocks)
            going_again =
                record {
                  le = (let h : n < b = leb-false b n p in omega arith);
                  few = i.few;
                  sum = summed a e4;
                  rest = going_rest;
                  state = g.state;
                  memory = g.memory;
                  same_memory = g.same_memory ∙ i.same_memory;
                  same_journal = g.same_journal ∙ i.same_journal;
                  same_log = g.same_log ∙ i.same_log;
                  room = (let e = g.same_log in let h = i.room in omega arith);
                  inside = g.inside;
                }

  -- what a step asks for
  pub going_requires : ltb (length j - mark) longest_record ≡ false → (memory_fits m ≡ true) × (mark + longest_record ≤ length j) × (byte_limit ≤ length l) × (state_fits s ≡ true)
  going_requires h = (i.memory, (let k = ltb-false (length j - mark) longest_record h in let d = i.inside in omega arith), i.room, i.state)
