-- GoingBack.antt - demand 3 where all records are kept, as one theorem: `going_back`. Clause by clause:
--   "Take any valid state, any journal mark"                       any Machine x with Lent slots and memory: twenty words and bytes, valid or not
--   "any mix of steps and undos, each call given what the last"    cs : List Call, and after (machine-calls Keeping) cs x (act on what the last returned)
--   "at no point more steps have been undone than accepted"        NeverAhead (machine-calls Keeping) cs x 0 0
--   "A run counts as its steps"                                    accepted and left-by at run-of; run_as_steps says that it is those steps
--   "lent the same memory, journal .., and nobody else changes"    act hands on the journal and the memory that the call left, and nothing else
--   "state, memory and mark end exactly as"                        seen (after (machine-calls Keeping) cs x) ≡
--   "the steps not undone, with their requests"                    standing (machine-calls Keeping) cs x [], the last first
--   "taken alone from the start by the definition in 2"            taken_alone .. (seen x), by one-step and the length of its record
--   "Refused calls in between count for nothing"                   accepted, undone and left-by at a number that is not 0
-- * undo_when_standing: where a step stands, an undo is accepted and takes exactly the last one away.
-- Source: [00 demand 3].
use Prim.Native.Nat.{ℕ, ◌+◌, ◌≤◌}
use mathlib.Core.Path.{◌≡◌, refl, sym, ap, subst, ◌∙◌}
use mathlib.Core.Bool.{true}
use mathlib.Core.List.{List, [], ◌∷◌, ◌++◌, reverse}
use native.Mathlib.Omega.{arith}
use lib.ListN.{length}
use Rattle.numbers.specs.Number.{written, back}
use Rattle.numbers.proofs.WrittenLaws.{back_written, length_written}
use Rattle.undo.proofs.UndoLaws.{back_below}
use Rattle.calls.specs.declared.Manner.TheVariants.{Keeping}
use Rattle.calls.specs.Calls.{UndoCall}
use Rattle.calls.specs.History.{Machine, Request, Call, step_of, undo_once, stepping, undoing, act, machine_calls, after}
use Rattle.calls.specs.History.{NeverAhead, standing, Seen, seen, record_after, one_more, taken_alone}
use Rattle.calls.proofs.ValidLaws.{BoardFits, Lent, Valid}
use Rattle.calls.proofs.ActLaws.{machine_at, act_step, step_valid, step_board, step_room, lent_after}
use Rattle.calls.proofs.BackLaws.{mark_after, undoing_to, any_calls, history_at}

-- ---- a history from one start
module _ (x₀ : Machine) (lent : Lent x₀.slots x₀.memory) where
  abbrev alone : List Request → Seen
  alone rs = taken_alone rs (seen x₀)

  -- the journal holds the records of the standing steps, one after the other, the last at its end
  abbrev Holds : List ℕ → List Request → Type 0
  Holds j [] = Unit {0}
  Holds j (r ∷ rs) =
      Valid (alone rs).slots (alone rs).memory
      × (BoardFits (alone rs).board (alone rs).memory)
      × ((one_more r (alone rs)).mark ≤ length j)
      × (back j (one_more r (alone rs)).mark ≡ reverse (record_after r (alone rs)) ++ back j (alone rs).mark)
      × Holds j rs

  -- the machine is where the standing steps alone would be, and its journal holds their records
  record At (x : Machine) (rs : List Request) : Type 0 where
    journal : List ℕ
    is : x ≡ machine_at (alone rs) journal
    holds : Holds journal rs

  lent_alone : (j : List ℕ) (rs : List Request) → Holds j rs → Lent (alone rs).slots (alone rs).memory
  lent_alone j [] h = lent
  lent_alone j (r ∷ rs) h = lent_after r (alone rs) h.0

  -- what is written at the mark disturbs no record below
  holds_below : (j i : List ℕ) (rs : List Request) → length i ≡ length j → ((e : ℕ) → e ≤ (alone rs).mark → back i e ≡ back j e) → Holds j rs → Holds i rs
  holds_below j i [] l same h = tt
  holds_below j i (r ∷ rs) l same h =
      let grown : (alone rs).mark ≤ (one_more r (alone rs)).mark = omega (arith, mark_after r (alone rs)) in (
        h.0,
        h.1,
        omega (arith, h.2),
        same (one_more r (alone rs)).mark (omega arith) ∙ h.3 ∙ ap (λ (b : List ℕ). reverse (record_after r (alone rs)) ++ b) (sym (same (alone rs).mark grown)),
        holds_below j i rs l (λ e q. same e (omega arith)) h.4,
      )

  -- ---- each call
  module _ (j : List ℕ) (rs : List Request) (h : Holds j rs) where
    abbrev here : Machine
    here = machine_at (alone rs) j

    step_kept : (r : Request) → (stepping Keeping r.level r.vector here).a.number ≡ 0 → At (act Keeping (step_of r.level r.vector) here) (r ∷ rs)
    step_kept r ok =
        let a = alone rs in
        let b = record_after r a in
        let w = written j a.mark b in
        let l = lent_alone j rs h in
        let room : a.mark + length b ≤ length j = step_room Keeping r here l tt ok in
        let same_length = length_written j a.mark b room in
        let next = mark_after r a in
        record {
          journal = w;
          is = act_step Keeping r here ok;
          holds = (
            step_valid Keeping r.level r.vector here l ok,
            step_board Keeping r.level r.vector here ok,
            omega (arith, room, same_length, next),
            rw next (back_written j a.mark b room ∙ ap (λ (p : List ℕ). reverse b ++ p) (sym (back_below j a.mark b a.mark (omega arith) (omega arith)))),
            holds_below j w rs same_length (λ e q. back_below j a.mark b e q (omega arith)) h,
          );
        }

  at_subst : (x y : Machine) (rs : List Request) → y ≡ x → At x rs → At y rs
  at_subst x y rs e a = rw e a

  -- the same at any machine
  step_at : (x : Machine) (rs : List Request) → At x rs → (r : Request) → (stepping Keeping r.level r.vector x).a.number ≡ 0 → At (act Keeping (step_of r.level r.vector) x) (r ∷ rs)
  step_at x rs a r ok =
      at_subst (act Keeping (step_of r.level r.vector) (machine_at (alone rs) a.journal)) (act Keeping (step_of r.level r.vector) x) (r ∷ rs)
      (ap (act Keeping (step_of r.level r.vector)) a.is)
      (step_kept a.journal rs a.holds r (rw a.is at ok))

  lent_at : (x : Machine) (rs : List Request) → At x rs → Lent x.slots x.memory
  lent_at x rs a = rw a.is (lent_alone a.journal rs a.holds)

  -- undo where a step stands
  undoing_at : (x : Machine) (r : Request) (rs : List Request) → At x (r ∷ rs) → undoing x ≡ record { s = (alone rs).slots; m = (alone rs).memory; a = record { number = 0; mark = (alone rs).mark } }
  undoing_at x r rs a =
      let h = a.holds in
      ap undoing a.is ∙ undoing_to r (alone rs) h.0 h.1 a.journal h.2 h.3

  undo_at : (x : Machine) (r : Request) (rs : List Request) → At x (r ∷ rs) → At (act Keeping undo_once x) rs
  unfolding act one_more
  undo_at x r rs a =
      record {
        journal = x.journal;
        is = λ i. let c = undoing_at x r rs a i in record { board = (a.is i).board; slots = c.s; memory = c.m; journal = x.journal; mark = c.a.mark };
        holds = subst (λ (j : List ℕ). Holds j rs) (sym (ap (λ (y : Machine). y.journal) a.is)) a.holds.4;
      }

  -- ---- all of a history
  at_end : (cs : List Call) → NeverAhead (machine_calls Keeping) cs x₀ 0 0 → At (after (machine_calls Keeping) cs x₀) (standing (machine_calls Keeping) cs x₀ [])
  at_end cs h =
      history_at Keeping (λ c x. Unit {0}) At
      (λ x rs a. (lent_at x rs a, tt)) (λ x rs a r ok p. step_at x rs a r ok) (λ budget stop x s p i l. tt) (λ x r rs a ok. undo_at x r rs a)
      cs x₀ [] 0 0 (record { journal = x₀.journal; is = refl; holds = tt }) (omega arith) h (any_calls Keeping cs x₀)

-- ---- demand 3
pub going_back : (x : Machine) → Lent x.slots x.memory → (cs : List Call) → NeverAhead (machine_calls Keeping) cs x 0 0 → seen (after (machine_calls Keeping) cs x) ≡ taken_alone (standing (machine_calls Keeping) cs x []) (seen x)
going_back x lent cs h = ap seen (at_end x lent cs h).is

-- where a step stands, an undo is accepted, and state, memory and mark are those of the steps before it
pub undo_when_standing : (x : Machine) → Lent x.slots x.memory → (cs : List Call) → NeverAhead (machine_calls Keeping) cs x 0 0
    → (r : Request) (rs : List Request) → standing (machine_calls Keeping) cs x [] ≡ r ∷ rs
    → ((undoing (after (machine_calls Keeping) cs x)).a.number ≡ 0) × (seen (act Keeping undo_once (after (machine_calls Keeping) cs x)) ≡ taken_alone rs (seen x))
undo_when_standing x lent cs h r rs e =
    let a : At x lent (after (machine_calls Keeping) cs x) (r ∷ rs) = rw e at (at_end x lent cs h) in
    (ap (λ (c : UndoCall). c.a.number) (undoing_at x lent (after (machine_calls Keeping) cs x) r rs a), ap seen (undo_at x lent (after (machine_calls Keeping) cs x) r rs a).is)
