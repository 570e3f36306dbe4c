-- History.antt - the calls from C of one manner on one box, each given what the last one left, and what their answers tell.
-- Not here: what a call does (Calls.antt); a mix of calls, and steps taken alone (History.antt of the crate calls).
-- Uses: block, calls.  Laws: proofs/GoingBack.antt.  Source: [K1], [K5], [K7], [K10], [00 demand 3].
use Rattle.std.specs.Prelude.{ℕ, List}
use Rattle.bus.specs.Bus.{Board}
use Rattle.calls.specs.declared.Manner.{Manner}
use Rattle.calls.specs.declared.StepAnswer.{StepAnswer}
use Rattle.calls.specs.declared.RunAnswer.{RunAnswer}
use Rattle.calls.specs.declared.UndoAnswer.{UndoAnswer}
use Rattle.calls.specs.History.{Machine, Call, step_of, run_of, undo_once, Calls, Seen}
use Rattle.block.specs.Block.{slots_in, block_of}
use Rattle.block_calls.specs.Calls.{OnBlock, ibz_step, ibz_run, ibz_undo}

-- what the host keeps between calls: block, board, window and ROM, memory, journal and mark  [K1] [K7] [K10]
pub record Box : Type 0 where
  pub block : List ℕ
  pub board : Board
  pub memory : List ℕ
  pub journal : List ℕ
  pub mark : ℕ

-- ---- what each call gives back on a box

-- ibz_undo, given all that the host keeps  [K1]
abbrev pub ibz_undoing : Box → OnBlock UndoAnswer
ibz_undoing x = ibz_undo x.block x.board x.memory x.journal x.mark

-- what a call leaves for the next one: the board stays; mark tells the mark of its answer  [00 demand 3] [K7] [K10]
abbrev pub box_left : {A : Type 0} → (A → ℕ) → Board → OnBlock A → Box
box_left mark board c = record { block = c.b; board = board; memory = c.m; journal = c.j; mark = mark c.a }

module _ (w : Manner) where
  -- ibz_step or ibz_step_keeping, given all that the host keeps  [K1] [K5]
  abbrev pub ibz_stepping : ℕ → ℕ → Box → OnBlock StepAnswer
  ibz_stepping level vector x = ibz_step w x.block x.board x.memory level vector x.journal x.mark

  -- ibz_run or ibz_run_keeping, likewise  [K1] [K5]
  abbrev pub ibz_running : ℕ → ℕ → Box → OnBlock RunAnswer
  ibz_running budget stop x = ibz_run w x.block x.board x.memory budget stop x.journal x.mark

  -- the box after a call: what the next call is given  [00 demand 3]
  unfoldable pub ibz_act : Call → Box → Box
  ibz_act (step_of level vector) x = box_left (λ (a : StepAnswer). a.mark) x.board (ibz_stepping level vector x)
  ibz_act (run_of budget stop) x = box_left (λ (a : RunAnswer). a.mark) x.board (ibz_running budget stop x)
  ibz_act undo_once x = box_left (λ (a : UndoAnswer). a.mark) x.board (ibz_undoing x)

  -- the number of a call's answer  [K1]
  abbrev pub ibz_number : Call → Box → ℕ
  ibz_number (step_of level vector) x = (ibz_stepping level vector x).a.number
  ibz_number (run_of budget stop) x = (ibz_running budget stop x).a.number
  ibz_number undo_once x = (ibz_undoing x).a.number

  -- the steps that a run tells  [K1]
  abbrev pub ibz_steps : Call → Box → ℕ
  ibz_steps (step_of level vector) x = 0
  ibz_steps (run_of budget stop) x = (ibz_running budget stop x).a.steps
  ibz_steps undo_once x = 0

  -- the calls from C on a box; after, accepted, undone, NeverAhead and standing of the crate calls speak of them too  [K1]
  abbrev pub ibz_calls : Calls Box
  ibz_calls = record { next = ibz_act; number = ibz_number; steps = ibz_steps }

-- ---- what is compared

-- block, board, memory and mark  [00 demand 3] [K7] [K10]
pub record BoxSeen : Type 0 where
  pub block : List ℕ
  pub board : Board
  pub memory : List ℕ
  pub mark : ℕ

-- what demand 3 compares of a box  [00 demand 3]
abbrev pub ibz_seen : Box → BoxSeen
ibz_seen x = record { block = x.block; board = x.board; memory = x.memory; mark = x.mark }

-- the machine whose state the block holds  [K1]
abbrev pub machine_in : Box → Machine
machine_in x = record { board = x.board; slots = slots_in x.block; memory = x.memory; journal = x.journal; mark = x.mark }

-- the same of a machine: the block that holds its state  [K1]
abbrev pub in_block : Seen → BoxSeen
in_block a = record { block = block_of a.slots; board = a.board; memory = a.memory; mark = a.mark }
