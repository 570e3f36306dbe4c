-- History.antt - a mix of calls, each given what the last one returned; the steps that stand after it; those steps taken alone.
-- Not here: what a call does (Calls.antt), what a step does (one-step of the crate step).
-- Laws: proofs/GoingBack.antt, proofs/ClockLaws.antt.  Source: [00 demand 3], [K2], [K5], [K7], [K10].
use Rattle.std.specs.Prelude.{ℕ, zero, suc, ◌+◌, ◌≤◌, List, [], ◌∷◌, length, eqb}
use Rattle.bits.specs.Bits.{pick, iter}
use Rattle.bus.specs.Bus.{Board}
use Rattle.step.specs.Steps.{one_step, step_clocks}
use Rattle.record.specs.Change.{step_record}
use Rattle.calls.specs.declared.Manner.{Manner}
use Rattle.calls.specs.Calls.{StepCall, RunCall, UndoCall, step_call, run_call, undo_call}

-- what the calls are lent, the board, window and ROM, which the host sets and no call changes, and the mark  [01 Calls] [K7] [K10]
pub record Machine : Type 0 where
  pub board : Board
  pub slots : List ℕ
  pub memory : List ℕ
  pub journal : List ℕ
  pub mark : ℕ

-- an interrupt level and a vector number  [01 Calls]
pub record Request : Type 0 where
  pub level : ℕ
  pub vector : ℕ

-- a step with a level and a vector; a run with a budget and a stop address; an undo  [00 demand 3]
pub data Call : Type 0 where
  step_of : ℕ → ℕ → Call
  run_of : ℕ → ℕ → Call
  undo_once : Call

-- ---- what each call gives back on a machine

-- an undo of a machine  [01 Calls]
abbrev pub undoing : Machine → UndoCall
undoing x = undo_call x.board x.slots x.memory x.journal x.mark

module _ (w : Manner) where
  -- a step of a machine  [01 Calls]
  abbrev pub stepping : ℕ → ℕ → Machine → StepCall
  stepping level vector x = step_call w x.board x.slots x.memory level vector x.journal x.mark

  -- a run of a machine  [01 Calls, Run]
  abbrev pub running_on : ℕ → ℕ → Machine → RunCall
  running_on budget stop x = run_call w x.board x.slots x.memory budget stop x.journal x.mark

  -- the machine after a call: what the next call is given  [00 demand 3]
  unfoldable pub act : Call → Machine → Machine
  act (step_of level vector) x =
      let c = stepping level vector x in
      record { board = x.board; slots = c.s; memory = c.m; journal = c.j; mark = c.a.mark }
  act (run_of budget stop) x =
      let c = running_on budget stop x in
      record { board = x.board; slots = c.s; memory = c.m; journal = c.j; mark = c.a.mark }
  act undo_once x =
      let c = undoing x in
      record { board = x.board; slots = c.s; memory = c.m; journal = x.journal; mark = c.a.mark }

  -- the number of a call's answer  [01 Calls]
  abbrev pub number_told : Call → Machine → ℕ
  number_told (step_of level vector) x = (stepping level vector x).a.number
  number_told (run_of budget stop) x = (running_on budget stop x).a.number
  number_told undo_once x = (undoing x).a.number

  -- the steps that a run tells  [01 Calls, Run]
  abbrev pub steps_told : Call → Machine → ℕ
  steps_told (step_of level vector) x = 0
  steps_told (run_of budget stop) x = (running_on budget stop x).a.steps
  steps_told undo_once x = 0

-- ---- a mix of calls, on whatever is kept between them

-- calls on an X: what the next call is given, and the number and the steps that an answer tells  [00 demand 3]
pub record Calls (X : Type 0) : Type 0 where
  pub next : Call → X → X
  pub number : Call → X → ℕ
  pub steps : Call → X → ℕ

-- the calls of this crate in a manner; those from C are another such record  [01 Calls] [K5]
abbrev pub machine_calls : Manner → Calls Machine
machine_calls w = record { next = act w; number = number_told w; steps = steps_told w }

-- all but the last step  [00 demand 3]
abbrev pub all_but_last : List Request → List Request
all_but_last [] = []
all_but_last (r ∷ rs) = rs

-- one more step with level 0, as a run takes it  [01 Calls, Run]
abbrev pub plain_step : List Request → List Request
plain_step rs = record { level = 0; vector = 0 } ∷ rs

module _ {X : Type 0} (k : Calls X) where
  -- after all of the calls, each given what the last one returned  [00 demand 3]
  abbrev pub after : List Call → X → X
  after [] x = x
  after (c ∷ cs) x = after cs (k.next c x)

  -- the steps that a call accepts: a run counts as its steps; a refused call counts for nothing  [00 demand 3]
  unfoldable pub accepted : Call → X → ℕ
  accepted (step_of level vector) x = pick (eqb (k.number (step_of level vector) x) 0) 1 0
  accepted (run_of budget stop) x = k.steps (run_of budget stop) x
  accepted undo_once x = 0

  -- the steps that a call undoes  [00 demand 3]
  unfoldable pub undone : Call → X → ℕ
  undone (step_of level vector) x = 0
  undone (run_of budget stop) x = 0
  undone undo_once x = pick (eqb (k.number undo_once x) 0) 1 0

  -- at no point more steps undone than accepted; a and u are those before  [00 demand 3]
  abbrev pub NeverAhead : List Call → X → ℕ → ℕ → Type 0
  NeverAhead [] x a u = u ≤ a
  NeverAhead (c ∷ cs) x a u = (u ≤ a) × NeverAhead cs (k.next c x) (a + accepted c x) (u + undone c x)

  -- the steps that stand after one call, with their requests, the last first, where rs stood before it  [00 demand 3]
  unfoldable pub left_by : Call → X → List Request → List Request
  left_by (step_of level vector) x rs = pick (eqb (k.number (step_of level vector) x) 0) (record { level = level; vector = vector } ∷ rs) rs
  left_by (run_of budget stop) x rs = iter plain_step (k.steps (run_of budget stop) x) rs
  left_by undo_once x rs = pick (eqb (k.number undo_once x) 0) (all_but_last rs) rs

  -- the steps that stand after all of the calls, where rs stood before them  [00 demand 3]
  abbrev pub standing : List Call → X → List Request → List Request
  standing [] x rs = rs
  standing (c ∷ cs) x rs = standing cs (k.next c x) (left_by c x rs)

-- ---- steps taken alone: by one-step and the length of its record only

-- state, memory and mark, and the board, window and ROM, with which the steps are taken  [00 demand 3] [K7] [K10]
pub record Seen : Type 0 where
  pub board : Board
  pub slots : List ℕ
  pub memory : List ℕ
  pub mark : ℕ

-- what demand 3 compares of a machine  [00 demand 3]
abbrev pub seen : Machine → Seen
seen x = record { board = x.board; slots = x.slots; memory = x.memory; mark = x.mark }

-- the record of one step  [01 The journal]
unfoldable pub record_after : Request → Seen → List ℕ
record_after r a =
    let t = one_step a.board a.slots a.memory r.level r.vector in
    step_record a.slots t.s a.memory t.m

-- one step by the definition of demand 2; the mark grows by its record  [00 demand 2] [00 demand 3]
unfoldable pub one_more : Request → Seen → Seen
one_more r a =
    let t = one_step a.board a.slots a.memory r.level r.vector in
    record { board = a.board; slots = t.s; memory = t.m; mark = a.mark + length (record_after r a) }

-- the steps of a list, the last first, taken alone from the start  [00 demand 3]
abbrev pub taken_alone : List Request → Seen → Seen
taken_alone [] a = a
taken_alone (r ∷ rs) a = one_more r (taken_alone rs a)

-- the sum of the clocks of n steps with level 0, taken alone, one after the other  [K2]
abbrev pub clocks_alone : ℕ → Seen → ℕ
clocks_alone zero a = 0
clocks_alone (suc n) a = step_clocks a.board a.slots a.memory 0 0 + clocks_alone n (one_more (record { level = 0; vector = 0 }) a)
