-- TriedLaws.antt - K7's theorems for the pattern tryer.
-- * try_is_its_steps: a try is as many step calls with level 0 as it tells steps; none is refused, and those before the last take no exception.
-- * try_leaves: theorem 1. Up to the step that takes an exception or halts, T, S, mask, SSP and every byte outside the window stay as they were;
--   once_calm_is: that is the machine after the try where no step does.
-- * alike_tries: theorem 2. Tries of two machines that are alike take as many steps and end alike: the same refusal, the same vector if neither
--   halts; up to there the answers, records and clocks of their steps are the same. same_calm, alike_after: the machines after them are alike where
--   no step takes an exception or halts.
-- * take_back: theorem 3. Taking back after any try gives exactly the slots, the memory, the mark and the window before.
-- Uses: bits, bank, calls, tries, fence.  Source: [K7].
use Prim.Native.Nat.{ℕ, suc, ◌+◌, ◌-◌}
use native.Mathlib.Omega.{arith}
use mathlib.Core.Path.{◌≡◌, refl, sym, ap, ◌∙◌, subst, subst₂}
use mathlib.Core.Bool.{Bool, true, false, ◌||◌}
use mathlib.Core.List.{List, [], ◌∷◌}
use lib.ListN.{length}
use lib.Dec.{eqb}
use borrow.Author.Tests.{eqb-true, eqb-false}
use Rattle.codes.specs.Codes.{NoEvent, HaltEvent}
use Rattle.bits.specs.Bits.{pick}
use Rattle.bits.proofs.BitsLaws.{pick_cases}
use Rattle.bus.specs.declared.Window.{Window}
use Rattle.bus.specs.Bus.{Board}
use Rattle.calls.specs.declared.Manner.TheVariants.{Keeping}
use Rattle.calls.specs.declared.StepAnswer.{StepAnswer}
use Rattle.calls.specs.Calls.{first_tests}
use Rattle.calls.specs.History.{Machine, Request}
use Rattle.tries.specs.declared.TryAnswer.{TryAnswer}
use Rattle.tries.specs.Tries.{spent, taken_exception, halt, refused, TryCall, try_number, backing}
use Rattle.fence.specs.Rows.{Fit, AlikeMachines, LeftMachine, answer_to, next, answers, after_row, AllCalm, SameRow}
use Rattle.fence.proofs.OneLaws.{same_sr, same_mode}
use Rattle.fence.proofs.FenceLaws.{board_stays, alike_back, same_told, same_call, alike_calls, same_vector, keeping_drops, keeping_drops_none}
use Rattle.tried.specs.Tried.{plain, plains, AllAccepted, try_on, after_try, back_on, exceptional, calm_steps, once_calm, taken_back, TryIs}
use Rattle.tried.specs.Tried.{SameEnd}
use Rattle.tried.specs.Tried.{same_end, first_halts, second_halts, SameTry}
use Rattle.tried.proofs.CourseLaws.{trying_on, ended_at, ended_after, quiet, turn_ends, turn_refused, turn_spent, through, Ends, done}
use Rattle.tried.proofs.CourseLaws.{refuses, excepts, Course, course_of, first_number, goes_refused, goes_on, row_board, row_fit}
use Rattle.tried.proofs.CourseLaws.{plains_length, row_more, accepted_more, Result, at_rest, by_event, passed, went}
use Rattle.tried.proofs.BackLaws.{backing_on, back_row}

-- ---- a try is its steps
-- a machine on another board
abbrev on_board : Board → Machine → Machine
on_board board z = record { board = board; slots = z.slots; memory = z.memory; journal = z.journal; mark = z.mark }

-- the machine that a try leaves, from its call
abbrev left_by : Machine → TryCall → Machine
left_by x t = record { board = x.board; slots = t.s; memory = t.m; journal = t.j; mark = t.a.mark }

-- what the ends of a try tell
module _ (event n : ℕ) (z : Machine) where
  after_steps : (ended_after event n z).a.steps ≡ n
  after_steps = pick_cases (λ (t : TryCall). t.a.steps ≡ n) (eqb event HaltEvent) refl refl

  after_number : (ended_after event n z).a.number ≡ 0
  after_number = pick_cases (λ (t : TryCall). t.a.number ≡ 0) (eqb event HaltEvent) refl refl

  after_calm : calm_steps (ended_after event n z).a ≡ n - 1
  after_calm = pick_cases (λ (t : TryCall). calm_steps t.a ≡ n - 1) (eqb event HaltEvent) refl refl

  after_left : (x : Machine) → z.board ≡ x.board → left_by x (ended_after event n z) ≡ z
  after_left x e =
      let g = ap (λ (board : Board). on_board board z) (sym e) in pick_cases (λ (t : TryCall). left_by x t ≡ z) (eqb event HaltEvent) g g

module _ (x : Machine) (c : ℕ) (t : TryCall) where
  abbrev z : Machine
  z = after_row Keeping (plains c) x

  calm_told : Result c z t → calm_steps t.a ≡ c
  calm_told (at_rest end number k e) = ap (λ (t : TryCall). calm_steps t.a) e ∙ rw k
  calm_told (by_event h l e) =
      let p : c + 1 - 1 ≡ c = omega arith in
      ap (λ (t : TryCall). calm_steps t.a) e ∙ after_calm (answer_to Keeping plain z).event (c + 1) (next Keeping plain z) ∙ p

  record Steps : Type 0 where
    accepted : AllAccepted (plains t.a.steps) x
    machine : left_by x t ≡ after_row Keeping (plains t.a.steps) x

  steps_of : AllAccepted (plains c) x → Result c z t → Steps
  steps_of a (at_rest end number k e) =
      let n = ap (λ (t : TryCall). t.a.steps) e in
      record {
        accepted = subst (λ (n : ℕ). AllAccepted (plains n) x) (sym n) a;
        machine = ap (left_by x) e ∙ back ∙ ap (λ (n : ℕ). after_row Keeping (plains n) x) (sym n);
      }
    where
      back : left_by x (ended_at end number c z) ≡ z
      back = ap (λ (board : Board). on_board board z) (sym (row_board (plains c) x))
  steps_of a (by_event h l e) =
      let event = (answer_to Keeping plain z).event in
      let y = next Keeping plain z in
      let one : c + 1 ≡ suc c = omega arith in
      let n = ap (λ (t : TryCall). t.a.steps) e ∙ after_steps event (c + 1) y ∙ one in
      let more = accepted_more c x a (eqb-true (answer_to Keeping plain z).number 0 h) in
      record {
        accepted = subst (λ (n : ℕ). AllAccepted (plains n) x) (sym n) more;
        machine =
            ap (left_by x) e
            ∙ after_left event (c + 1) y x (board_stays Keeping plain z ∙ row_board (plains c) x)
            ∙ sym (row_more c x)
            ∙ ap (λ (n : ℕ). after_row Keeping (plains n) x) (sym n);
      }

pub try_is_its_steps : (count : ℕ) (x : Machine) → TryIs count x
try_is_its_steps count x =
    let g = went count x in
    let s = steps_of x g.calm (try_on count x) g.accepted g.result in
    record {
      accepted = s.accepted;
      calm = subst (λ (n : ℕ). AllCalm Keeping (plains n) x) (sym (calm_told x g.calm (try_on count x) g.result)) g.quiet;
      machine = s.machine;
    }

-- ---- theorem 1
pub try_leaves : (count : ℕ) (x : Machine) → Fit x → LeftMachine x (once_calm count x)
try_leaves count x f =
    let g = went count x in
    subst (λ (n : ℕ). LeftMachine x (after_row Keeping (plains n) x)) (sym (calm_told x g.calm (try_on count x) g.result)) (g.left f)

-- where no step takes an exception or halts this is the machine after the try
pub once_calm_is : (count : ℕ) (x : Machine) → exceptional (try_on count x).a ≡ false → after_try count x ≡ once_calm count x
once_calm_is count x h = (try_is_its_steps count x).machine ∙ ap (λ (n : ℕ). after_row Keeping (plains n) x) steps
  where
    steps : (try_on count x).a.steps ≡ calm_steps (try_on count x).a
    steps = rw h

-- ---- theorem 2
-- numbers by answers
abbrev Taking : List StepAnswer → Type 0
Taking [] = Unit {0}
Taking (a ∷ rest) = (a.number ≡ 0) × Taking rest

taking_of : (qs : List Request) (x : Machine) → AllAccepted qs x → Taking (answers Keeping qs x)
taking_of [] x h = tt
taking_of (q ∷ qs) x h = (h.0, taking_of qs (next Keeping q x) h.1)

accepted_of : (qs : List Request) (x : Machine) → Taking (answers Keeping qs x) → AllAccepted qs x
accepted_of [] x h = tt
accepted_of (q ∷ qs) x h = (h.0, accepted_of qs (next Keeping q x) h.1)

-- the first step of two machines that are alike
module _ (x y : Machine) (h : AlikeMachines x y) where
  quiet_too : Fit x → Fit y → quiet x ≡ true → quiet y ≡ true
  quiet_too fx fy e =
      let calm = eqb-true (answer_to Keeping plain x).event NoEvent e in
      ap (λ (a : StepAnswer). eqb a.event NoEvent)
      (sym (same_call Keeping plain x y h fx fy calm (keeping_drops plain x) (keeping_drops plain y)).answer)
      ∙ e

  same_first : (count : ℕ) → first_number count x ≡ first_number count y
  unfolding try_number first_tests
  same_first count =
      let sr = same_sr x.board y.board x.slots y.slots x.memory y.memory h.states in
      let mode = same_mode x.board y.board x.slots y.slots x.memory y.memory h.states in
      cc (sr, mode, h.states.memory.long, h.states.boards.window, h.states.boards.rom.long, h.journal, h.mark)

loud_too : (x y : Machine) → AlikeMachines x y → Fit x → Fit y → quiet x ≡ false → quiet y ≡ false
loud_too x y h fx fy e = go (quiet y) refl
  where
    go : (b : Bool) → quiet y ≡ b → quiet y ≡ false
    go true k = absurd (let l = quiet_too y x (alike_back x y h) fy fx k in let z : ◌≡◌ {A = ℕ} 0 1 = cc (l, e) in omega (arith, z))
    go false k = k

-- the ends of two tries by the events of two machines that are alike
module _ (z u : Machine) (h : AlikeMachines z u) (n : ℕ) where
  abbrev first : TryCall
  first = ended_after (answer_to Keeping plain z).event n (next Keeping plain z)

  abbrev second : TryCall
  second = ended_after (answer_to Keeping plain u).event n (next Keeping plain u)

  abbrev e : ℕ
  e = (answer_to Keeping plain z).event

  abbrev f : ℕ
  f = (answer_to Keeping plain u).event

  end_told : (event : ℕ) (x : Machine) (b : Bool) → eqb event HaltEvent ≡ b → (ended_after event n x).a.end ≡ pick b halt taken_exception
  end_told event x true k = rw k
  end_told event x false k = rw k

  vector_told : (event : ℕ) (x : Machine) (b : Bool) → eqb event HaltEvent ≡ b → (ended_after event n x).a.vector ≡ pick b 0 (event - 1)
  vector_told event x true k = rw k
  vector_told event x false k = rw k

  same_event_end : SameEnd first.a second.a
  same_event_end = go (eqb e HaltEvent) (eqb f HaltEvent) refl refl
    where
      go : (b c : Bool) → eqb e HaltEvent ≡ b → eqb f HaltEvent ≡ c → SameEnd first.a second.a
      go true true p q =
          let x = next Keeping plain z in
          let y = next Keeping plain u in
          same_end (end_told e x true p ∙ sym (end_told f y true q)) (vector_told e x true p ∙ sym (vector_told f y true q))
      go true false p q = first_halts (end_told e (next Keeping plain z) true p) (end_told f (next Keeping plain u) false q)
      go false true p q = second_halts (end_told e (next Keeping plain z) false p) (end_told f (next Keeping plain u) true q)
      go false false p q =
          let x = next Keeping plain z in
          let y = next Keeping plain u in
          let v = same_vector Keeping plain z u h (keeping_drops plain z) (keeping_drops plain u) (eqb-false e HaltEvent p)
          (eqb-false f HaltEvent q) in
          same_end (end_told e x false p ∙ sym (end_told f y false q))
          (vector_told e x false p ∙ ap (λ (k : ℕ). k - 1) v ∙ sym (vector_told f y false q))

module _ (count : ℕ) (x y : Machine) (h : AlikeMachines x y) (fx : Fit x) (fy : Fit y) where
  same_by : (t u : TryCall) (c : ℕ) → try_on count x ≡ t → try_on count y ≡ u → t.a.steps ≡ u.a.steps → t.a.number ≡ u.a.number
      → SameEnd t.a u.a
      → calm_steps t.a ≡ c → SameRow Keeping (plains c) x y → SameTry count x y
  same_by t u c p q s n e k r =
      record {
        steps = ap (λ (t : TryCall). t.a.steps) p ∙ s ∙ sym (ap (λ (t : TryCall). t.a.steps) q);
        number = ap (λ (t : TryCall). t.a.number) p ∙ n ∙ sym (ap (λ (t : TryCall). t.a.number) q);
        end = subst₂ SameEnd (sym (ap (λ (t : TryCall). t.a) p)) (sym (ap (λ (t : TryCall). t.a) q)) e;
        calm = subst (λ (n : ℕ). SameRow Keeping (plains n) x y) (sym (ap (λ (t : TryCall). calm_steps t.a) p ∙ k)) r;
      }

  module _ (c : Course count x) where
    row : SameRow Keeping (plains c.calm) x y
    row =
        alike_calls Keeping (plains c.calm) x y h fx fy c.quiet (keeping_drops_none (plains c.calm) x)
        (keeping_drops_none (plains c.calm) y)

    abbrev zx : Machine
    zx = after_row Keeping (plains c.calm) x

    abbrev zy : Machine
    zy = after_row Keeping (plains c.calm) y

    passed_too : trying_on count 0 y ≡ trying_on c.rest c.calm zy
    passed_too =
        let p : 0 + c.calm ≡ c.calm = omega arith in
        ap (λ (k : ℕ). trying_on k 0 y) c.whole
        ∙ through c.calm c.rest 0 y
        (accepted_of (plains c.calm) y (subst Taking row.answer (taking_of (plains c.calm) x c.accepted))) row.calm
        ∙ ap (λ (k : ℕ). trying_on c.rest k zy) p

    same_ends : try_on count x ≡ trying_on c.rest c.calm zx → try_on count y ≡ trying_on c.rest c.calm zy → Ends c.rest zx
        → SameTry count x y
    same_ends p q (done e) =
        let g = ap (λ (k : ℕ). trying_on k c.calm zx) e ∙ turn_spent c.calm zx in
        let i = ap (λ (k : ℕ). trying_on k c.calm zy) e ∙ turn_spent c.calm zy in
        same_by (ended_at spent 0 c.calm zx) (ended_at spent 0 c.calm zy) c.calm (p ∙ g) (q ∙ i) refl refl (same_end refl refl) refl row
    same_ends p q (refuses k e l) =
        let s = same_told Keeping plain zx zy row.alike (keeping_drops plain zx) (keeping_drops plain zy) in
        let g = ap (λ (k : ℕ). trying_on k c.calm zx) e ∙ turn_refused k c.calm zx l in
        let i = ap (λ (k : ℕ). trying_on k c.calm zy) e ∙ turn_refused k c.calm zy (ap (λ (n : ℕ). eqb n 0) (sym s) ∙ l) in
        same_by (ended_at refused (answer_to Keeping plain zx).number c.calm zx)
        (ended_at refused (answer_to Keeping plain zy).number c.calm zy) c.calm
        (p ∙ g) (q ∙ i) refl s (same_end refl refl) refl row
    same_ends p q (excepts k e l m) =
        let s = same_told Keeping plain zx zy row.alike (keeping_drops plain zx) (keeping_drops plain zy) in
        let o = loud_too zx zy row.alike (row_fit (plains c.calm) x fx) (row_fit (plains c.calm) y fy) m in
        let g = ap (λ (k : ℕ). trying_on k c.calm zx) e ∙ turn_ends k c.calm zx l m in
        let i = ap (λ (k : ℕ). trying_on k c.calm zy) e ∙ turn_ends k c.calm zy (ap (λ (n : ℕ). eqb n 0) (sym s) ∙ l) o in
        let n = c.calm + 1 in
        let one : c.calm + 1 - 1 ≡ c.calm = omega arith in
        let a = (answer_to Keeping plain zx).event in
        let b = (answer_to Keeping plain zy).event in
        let wx = next Keeping plain zx in
        let wy = next Keeping plain zy in
        same_by (ended_after a n wx) (ended_after b n wy) c.calm (p ∙ g) (q ∙ i)
        (after_steps a n wx ∙ sym (after_steps b n wy)) (after_number a n wx ∙ sym (after_number b n wy))
        (same_event_end zx zy row.alike n) (after_calm a n wx ∙ one) row

  pub alike_tries : SameTry count x y
  alike_tries = go (eqb (first_number count x) 0) refl
    where
      go : (b : Bool) → eqb (first_number count x) 0 ≡ b → SameTry count x y
      go false k =
          let s = same_first x y h count in
          same_by (ended_at refused (first_number count x) 0 x) (ended_at refused (first_number count y) 0 y) 0
          (goes_refused count x k) (goes_refused count y (ap (λ (n : ℕ). eqb n 0) (sym s) ∙ k)) refl s (same_end refl refl) refl
          (record { answer = refl; written = refl; calm = tt; alike = h })
      go true k =
          let s = same_first x y h count in
          let c = course_of count x in
          let u = h.states.user in
          let v = (alike_back x y h).states.user in
          same_ends c (goes_on count x k u ∙ passed count x c) (goes_on count y (ap (λ (n : ℕ). eqb n 0) (sym s) ∙ k) v ∙ passed_too c) c.ends

-- as many of their steps are calm; and where no step takes an exception or halts the machines after the tries are alike
calm_by : (a b : TryAnswer) → SameEnd a b → exceptional a ≡ exceptional b
calm_by a b (same_end p q) = ap (λ (n : ℕ). eqb n taken_exception || eqb n halt) p
calm_by a b (first_halts p q) = rw (p, q)
calm_by a b (second_halts p q) = rw (p, q)

module _ (count : ℕ) (x y : Machine) (s : SameTry count x y) where
  pub same_calm : calm_steps (try_on count x).a ≡ calm_steps (try_on count y).a
  same_calm = cc (calm_by (try_on count x).a (try_on count y).a s.end, s.steps)

  pub alike_after : exceptional (try_on count x).a ≡ false → AlikeMachines (after_try count x) (after_try count y)
  alike_after h =
      let k = sym (calm_by (try_on count x).a (try_on count y).a s.end) ∙ h in
      subst₂ AlikeMachines (sym (once_calm_is count x h))
      (ap (λ (n : ℕ). after_row Keeping (plains n) y) same_calm ∙ sym (once_calm_is count y k)) s.calm.alike

-- ---- theorem 3
pub take_back : (old : Window) (count : ℕ) (x : Machine) → Fit x
    → back_on old (try_on count x).a.steps (after_try count x)
    ≡ taken_back old count x
unfolding backing
take_back old count x f =
    let t = try_is_its_steps count x in
    let n = (try_on count x).a.steps in
    let z = after_row Keeping (plains n) x in
    let p : n ≡ length (plains n) + 0 = omega (arith, plains_length n) in
    let q : 0 + length (plains n) ≡ n = omega (arith, plains_length n) in
    ap (back_on old n) t.machine
    ∙ ap (λ (k : ℕ). backing_on old k 0 z.journal z) p
    ∙ back_row old (plains n) x f t.accepted 0 0
    ∙ ap (λ (k : ℕ). backing_on old 0 k z.journal x) q
