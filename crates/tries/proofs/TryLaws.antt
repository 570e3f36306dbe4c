-- TryLaws.antt - the loops of the tryer: what is left of a try, or of taking back, done now, gives the whole one's answer.
-- * Trying, trying_start, trying_again; tries_spent, -refused, -halts, -excepts. try_refuses, try_supervised, try_goes: the returns of try_pattern.
-- * Backing, backing_start, backing_again; backs_all, backs_refused.
-- Uses: bits, bank, refusals, calls.  Source: [K7].
use Prim.Native.Nat.{ℕ, suc, ◌+◌, ◌-◌, ◌≤◌, ◌<◌}
use native.Mathlib.Omega.{arith}
use mathlib.Core.Path.{◌≡◌, sym, ap, ◌∙◌}
use mathlib.Core.Bool.{Bool, true, false}
use mathlib.Core.List.{List}
use lib.Dec.{eqb}
use borrow.Author.Tests.{ne_eqb}
use Rattle.std.specs.Prelude.{Result, Ok, Err}
use Rattle.std.proofs.Common.{eq-eqb, ◌≢◌}
use Rattle.bus.specs.declared.Window.{Window}
use Rattle.bus.specs.Bus.{Board}
use Rattle.bank.specs.Bank.{sr_of, supervisor}
use Rattle.refusals.specs.declared.Refusal.{Refusal}
use Rattle.refusals.specs.Refusals.{refusal_number, number_given}
use Rattle.refusals.proofs.NumberLaws.{refusal_some}
use Rattle.calls.specs.declared.Manner.TheVariants.{Keeping}
use Rattle.calls.specs.declared.StepAnswer.{StepAnswer}
use Rattle.calls.specs.declared.UndoAnswer.{UndoAnswer}
use Rattle.calls.specs.Calls.{StepCall, UndoCall, step_call, undo_call}
use Rattle.calls.specs.Promises.{StepPromise, UndoPromise}
use Rattle.calls.proofs.RefusalLaws.{step_refused, undo_refused}
use Rattle.tries.specs.declared.TryAnswer.{TryAnswer}
use Rattle.tries.specs.declared.BackAnswer.{BackAnswer}
use Rattle.tries.specs.Tries.{TryCall, ended, trying, try_number, try_call, BackCall, backing}
use Rattle.tries.specs.Promises.{TryPromise, BackPromise}

-- ---- the steps of a try
-- at the loop's head, n steps done: what is left gives the whole
pub record Trying (board : Board) (b : ℕ) (s₀ m₀ j₀ : List ℕ) (mark₀ : ℕ) (s m j : List ℕ) (mark n : ℕ) : Type 0 where
  pub le : n ≤ b
  pub rest : trying board (b - n) n s m j mark ≡ trying board b 0 s₀ m₀ j₀ mark₀

pub trying_start : (board : Board) (b : ℕ) (s m j : List ℕ) (mark : ℕ) → Trying board b s m j mark s m j mark 0
trying_start board b s m j mark = record { le = omega arith; rest = (let e : b - 0 ≡ b = omega arith in rw e) }

module _ {board : Board} {b : ℕ} {s₀ m₀ j₀ : List ℕ} {mark₀ : ℕ} {s m j : List ℕ} {mark n : ℕ} (i : Trying board b s₀ m₀ j₀ mark₀ s m j mark n) where
  pub tries_spent : b ≤ n → ended 1 0 0 b s m j mark ≡ trying board b 0 s₀ m₀ j₀ mark₀
  unfolding trying
  tries_spent h =
      let z : b - n ≡ 0 = omega arith in
      let q : n ≡ b = omega (arith, i.le) in
      let e = rw z at i.rest in cc (e, q)

  module _ (h : n < b) {s₁ m₁ j₁ : List ℕ} {a : StepAnswer} (p : StepPromise Keeping board s m 0 0 j mark s₁ m₁ j₁ a) where
    more : b - n ≡ suc (b - (n + 1))
    more = omega arith

    now_left : trying board (suc (b - (n + 1))) n s m j mark ≡ trying board b 0 s₀ m₀ j₀ mark₀
    now_left = rw more at i.rest

    number_is : a.number ≡ (step_call Keeping board s m 0 0 j mark).a.number
    number_is = ap (λ (x : StepAnswer). x.number) p.answer

    event_is : a.event ≡ (step_call Keeping board s m 0 0 j mark).a.event
    event_is = ap (λ (x : StepAnswer). x.event) p.answer

    zero_when : a.number ≡ 0 → eqb (step_call Keeping board s m 0 0 j mark).a.number 0 ≡ true
    zero_when t = ap (λ (x : ℕ). eqb x 0) (sym number_is) ∙ eq-eqb a.number 0 t

    loud_when : a.event ≢ 0 → eqb (step_call Keeping board s m 0 0 j mark).a.event 0 ≡ false
    loud_when t = ap (λ (x : ℕ). eqb x 0) (sym event_is) ∙ ne_eqb a.event 0 t

    pub tries_refused : a.number ≢ 0 → ended 5 a.number 0 n s₁ m₁ j₁ mark ≡ trying board b 0 s₀ m₀ j₀ mark₀
    unfolding trying
    tries_refused t =
        let r = step_refused Keeping board s m 0 j mark 0 (λ z. t (number_is ∙ z)) in
        let g : eqb (step_call Keeping board s m 0 0 j mark).a.number 0 ≡ false = ap (λ (x : ℕ). eqb x 0) (sym number_is) ∙ ne_eqb a.number 0 t in
        let e : ended 5 (step_call Keeping board s m 0 0 j mark).a.number 0 n s m j mark ≡ trying board b 0 s₀ m₀ j₀ mark₀ = rw g at now_left in
        let es : s₁ ≡ s = p.slots ∙ ap (λ (c : StepCall). c.s) r in
        let em : m₁ ≡ m = p.memory ∙ ap (λ (c : StepCall). c.m) r in
        let ej : j₁ ≡ j = p.journal ∙ ap (λ (c : StepCall). c.j) r in
        cc (e, es, em, ej, number_is)

    module _ (t : a.number ≡ 0) where
      pub tries_halts : a.event ≡ 257 → ended 4 0 0 (n + 1) s₁ m₁ j₁ a.mark ≡ trying board b 0 s₀ m₀ j₀ mark₀
      unfolding trying
      tries_halts u =
          let z = zero_when t in
          let k : eqb (step_call Keeping board s m 0 0 j mark).a.event 257 ≡ true = ap (λ (x : ℕ). eqb x 257) (sym event_is ∙ u) in
          let l : eqb (step_call Keeping board s m 0 0 j mark).a.event 0 ≡ false = ap (λ (x : ℕ). eqb x 0) (sym event_is ∙ u) in
          let e = rw (z, l, k) at now_left in
          cc (e, p.slots, p.memory, p.journal, p.answer)

      module _ (u : a.event ≢ 257) where
        pub tries_excepts : a.event ≢ 0 → ended 3 0 (a.event - 1) (n + 1) s₁ m₁ j₁ a.mark ≡ trying board b 0 s₀ m₀ j₀ mark₀
        unfolding trying
        tries_excepts v =
            let z = zero_when t in
            let k : eqb (step_call Keeping board s m 0 0 j mark).a.event 257 ≡ false = ap (λ (x : ℕ). eqb x 257) (sym event_is) ∙ ne_eqb a.event 257 u in
            let e = rw (z, loud_when v, k) at now_left in
            cc (e, p.slots, p.memory, p.journal, p.answer)

      pub trying_again : a.event ≡ 0 → Trying board b s₀ m₀ j₀ mark₀ s₁ m₁ j₁ a.mark (n + 1)
      unfolding trying
      trying_again v =
          let z = zero_when t in
          let q : eqb (step_call Keeping board s m 0 0 j mark).a.event 0 ≡ true = ap (λ (x : ℕ). eqb x 0) (sym event_is ∙ v) in
          let e = rw (z, q) at now_left in
          record {
            le = omega arith;
            rest = cc (e, p.slots, p.memory, p.journal, p.answer);
          }

-- ---- a whole try
module _ {A : Type 0} (board : Board) (s m : List ℕ) (count : ℕ) (j : List ℕ) (mark : ℕ) (k : Result A Refusal) (e : number_given k ≡ try_number board s m count j mark) where
  pub try_refuses : (r : Refusal) (a : TryAnswer) → k ≡ Err r → a ≡ record { end = 5; number = refusal_number r; vector = 0; steps = 0; mark = mark } → TryPromise board s m count j mark s m j a
  unfolding try_call
  try_refuses r a z q =
      let n : refusal_number r ≡ try_number board s m count j mark = ap number_given (sym z) ∙ e in
      let f : eqb (try_number board s m count j mark) 0 ≡ false = ap (λ (x : ℕ). eqb x 0) (sym n) ∙ ne_eqb (refusal_number r) 0 (refusal_some r) in
      record { slots = rw f; memory = rw f; journal = rw f; answer = q ∙ rw (f, n) }

  module _ (y : A) (z : k ≡ Ok y) (b : Bool) (d : b ≡ supervisor (sr_of s)) where
    passes : eqb (try_number board s m count j mark) 0 ≡ true
    passes = ap (λ (x : ℕ). eqb x 0) (sym e ∙ ap number_given z)

    pub try_supervised : b ≡ true → TryPromise board s m count j mark s m j (record { end = 2; number = 0; vector = 0; steps = 0; mark = mark })
    unfolding try_call
    try_supervised u =
        let f = passes in
        let g : supervisor (sr_of s) ≡ true = sym d ∙ u in
        record { slots = rw (f, g); memory = rw (f, g); journal = rw (f, g); answer = rw (f, g) }

    pub try_goes : (s₁ m₁ j₁ : List ℕ) (a : TryAnswer) → b ≡ false → record { s = s₁; m = m₁; j = j₁; a = a } ≡ trying board count 0 s m j mark
        → TryPromise board s m count j mark s₁ m₁ j₁ a
    unfolding try_call
    try_goes s₁ m₁ j₁ a u q =
        let f = passes in
        let g : supervisor (sr_of s) ≡ false = sym d ∙ u in
        let x : record { s = s₁; m = m₁; j = j₁; a = a } ≡ try_call board s m count j mark = rw (f, g) q in
        record {
          slots = ap (λ (c : TryCall). c.s) x;
          memory = ap (λ (c : TryCall). c.m) x;
          journal = ap (λ (c : TryCall). c.j) x;
          answer = ap (λ (c : TryCall). c.a) x;
        }

-- ---- taking back
pub record Backing (board : Board) (old : Window) (b : ℕ) (s₀ m₀ j : List ℕ) (mark₀ : ℕ) (s m : List ℕ) (mark n : ℕ) : Type 0 where
  pub le : n ≤ b
  pub rest : backing board old (b - n) n s m j mark ≡ backing board old b 0 s₀ m₀ j mark₀

pub backing_start : (board : Board) (old : Window) (b : ℕ) (s m j : List ℕ) (mark : ℕ) → Backing board old b s m j mark s m mark 0
backing_start board old b s m j mark = record { le = omega arith; rest = (let e : b - 0 ≡ b = omega arith in rw e) }

module _ {board : Board} {old : Window} {b : ℕ} {s₀ m₀ j : List ℕ} {mark₀ : ℕ} {s m : List ℕ} {mark n : ℕ} (i : Backing board old b s₀ m₀ j mark₀ s m mark n) where
  backed : (s₁ m₁ : List ℕ) (a : BackAnswer) → record { s = s₁; m = m₁; a = a } ≡ backing board old b 0 s₀ m₀ j mark₀ → BackPromise board old s₀ m₀ j mark₀ b s₁ m₁ a
  backed s₁ m₁ a e =
      record { slots = ap (λ (c : BackCall). c.s) e; memory = ap (λ (c : BackCall). c.m) e; answer = ap (λ (c : BackCall). c.a) e }

  pub backs_all : b ≤ n → BackPromise board old s₀ m₀ j mark₀ b s m (record { number = 0; undone = b; mark = mark; lo = old.lo; hi = old.hi })
  unfolding backing
  backs_all h =
      let z : b - n ≡ 0 = omega arith in
      let q : n ≡ b = omega (arith, i.le) in
      let e = rw z at i.rest in backed s m _ (cc (e, q))

  module _ (h : n < b) {s₁ m₁ : List ℕ} {a : UndoAnswer} (p : UndoPromise board s m j mark s₁ m₁ a) where
    one_more : b - n ≡ suc (b - (n + 1))
    one_more = omega arith

    left_now : backing board old (suc (b - (n + 1))) n s m j mark ≡ backing board old b 0 s₀ m₀ j mark₀
    left_now = rw one_more at i.rest

    undo_number_is : a.number ≡ (undo_call board s m j mark).a.number
    undo_number_is = ap (λ (x : UndoAnswer). x.number) p.answer

    pub backs_refused : a.number ≢ 0
        → BackPromise board old s₀ m₀ j mark₀ b s₁ m₁ (record { number = a.number; undone = n; mark = mark; lo = board.window.lo; hi = board.window.hi })
    unfolding backing
    backs_refused t =
        let r = undo_refused board s m j mark (λ z. t (undo_number_is ∙ z)) in
        let g : eqb (undo_call board s m j mark).a.number 0 ≡ false = ap (λ (x : ℕ). eqb x 0) (sym undo_number_is) ∙ ne_eqb a.number 0 t in
        let e = rw g at left_now in
        let es : s₁ ≡ s = p.slots ∙ ap (λ (c : UndoCall). c.s) r in
        let em : m₁ ≡ m = p.memory ∙ ap (λ (c : UndoCall). c.m) r in
        backed s₁ m₁ _ (cc (e, es, em, undo_number_is))

    pub backing_again : a.number ≡ 0 → Backing board old b s₀ m₀ j mark₀ s₁ m₁ a.mark (n + 1)
    unfolding backing
    backing_again t =
        let g : eqb (undo_call board s m j mark).a.number 0 ≡ true = ap (λ (x : ℕ). eqb x 0) (sym undo_number_is ∙ t) in
        let e = rw g at left_now in
        record {
          le = omega arith;
          rest = cc (e, p.slots, p.memory, p.answer);
        }
