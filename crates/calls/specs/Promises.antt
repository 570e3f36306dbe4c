-- Promises.antt - all that a call promises: its answer, and slots, memory and journal afterwards, for every input.
-- Not here: the definitions that it names (Calls.antt).
-- Laws: proofs/PromiseLaws.antt.  Source: [01 How much each promise says], [K5], [K7], [K10].
use Rattle.std.specs.Prelude.{ℕ, ◌≡◌, List}
use Rattle.bus.specs.Bus.{Board}
use Rattle.calls.specs.declared.Manner.{Manner}
use Rattle.calls.specs.declared.ResetAnswer.{ResetAnswer}
use Rattle.calls.specs.declared.StepAnswer.{StepAnswer}
use Rattle.calls.specs.declared.RunAnswer.{RunAnswer}
use Rattle.calls.specs.declared.UndoAnswer.{UndoAnswer}
use Rattle.calls.specs.Calls.{reset_call, reset_answer, step_call, run_call, undo_call}

-- reset: the slots, the number and the window; memory and ROM are lent to be read only  [01 Calls, Reset] [K7] [K10]
pub record ResetPromise (m rom s' : List ℕ) (a : ResetAnswer) : Type 0 where
  pub slots : s' ≡ reset_call m rom
  pub answer : a ≡ reset_answer m rom

-- step, in either manner  [01 Calls] [K5] [K7]
pub record StepPromise (w : Manner) (board : Board) (s m : List ℕ) (level vector : ℕ) (j : List ℕ) (mark : ℕ) (s' m' j' : List ℕ) (a : StepAnswer) : Type 0 where
  pub slots : s' ≡ (step_call w board s m level vector j mark).s
  pub memory : m' ≡ (step_call w board s m level vector j mark).m
  pub journal : j' ≡ (step_call w board s m level vector j mark).j
  pub answer : a ≡ (step_call w board s m level vector j mark).a

-- run, in either manner  [01 Calls, Run] [K5] [K7]
pub record RunPromise (w : Manner) (board : Board) (s m : List ℕ) (budget stop : ℕ) (j : List ℕ) (mark : ℕ) (s' m' j' : List ℕ) (a : RunAnswer) : Type 0 where
  pub slots : s' ≡ (run_call w board s m budget stop j mark).s
  pub memory : m' ≡ (run_call w board s m budget stop j mark).m
  pub journal : j' ≡ (run_call w board s m budget stop j mark).j
  pub answer : a ≡ (run_call w board s m budget stop j mark).a

-- undo: the journal is lent to be read only  [01 The journal] [K7]
pub record UndoPromise (board : Board) (s m j : List ℕ) (mark : ℕ) (s' m' : List ℕ) (a : UndoAnswer) : Type 0 where
  pub slots : s' ≡ (undo_call board s m j mark).s
  pub memory : m' ≡ (undo_call board s m j mark).m
  pub answer : a ≡ (undo_call board s m j mark).a
