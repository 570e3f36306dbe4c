-- Promises.antt - all that a call from C promises: its answer, and block, memory and journal afterwards, for every input.
-- Not here: the definitions that it names (Calls.antt).
-- Laws: proofs/PromiseLaws.antt.  Source: [K1], [K5], [K7], [K10], [01 How much each promise says].
use Rattle.std.specs.Prelude.{ℕ, ◌≡◌, List}
use Rattle.bus.specs.Bus.{Board}
use Rattle.calls.specs.declared.Manner.{Manner}
use Rattle.calls.specs.declared.ResetAnswer.{ResetAnswer}
use Rattle.calls.specs.declared.StepAnswer.{StepAnswer}
use Rattle.calls.specs.declared.RunAnswer.{RunAnswer}
use Rattle.calls.specs.declared.UndoAnswer.{UndoAnswer}
use Rattle.block_calls.specs.Calls.{ibz_reset, ibz_step, ibz_run, ibz_undo}

-- reset: memory and ROM are lent to be read only  [K1] [K10]
pub record IbzResetPromise (b m rom b' : List ℕ) (a : ResetAnswer) : Type 0 where
  pub block : b' ≡ (ibz_reset b m rom).b
  pub answer : a ≡ (ibz_reset b m rom).a

-- step, in either manner  [K1] [K5]
pub record IbzStepPromise (w : Manner) (b : List ℕ) (board : Board) (m : List ℕ) (level vector : ℕ) (j : List ℕ) (mark : ℕ) (b' m' j' : List ℕ) (a : StepAnswer) : Type 0 where
  pub block : b' ≡ (ibz_step w b board m level vector j mark).b
  pub memory : m' ≡ (ibz_step w b board m level vector j mark).m
  pub journal : j' ≡ (ibz_step w b board m level vector j mark).j
  pub answer : a ≡ (ibz_step w b board m level vector j mark).a

-- run, in either manner  [K1] [K5]
pub record IbzRunPromise (w : Manner) (b : List ℕ) (board : Board) (m : List ℕ) (budget stop : ℕ) (j : List ℕ) (mark : ℕ) (b' m' j' : List ℕ) (a : RunAnswer) : Type 0 where
  pub block : b' ≡ (ibz_run w b board m budget stop j mark).b
  pub memory : m' ≡ (ibz_run w b board m budget stop j mark).m
  pub journal : j' ≡ (ibz_run w b board m budget stop j mark).j
  pub answer : a ≡ (ibz_run w b board m budget stop j mark).a

-- undo: the journal is lent to be read only  [K1]
pub record IbzUndoPromise (b : List ℕ) (board : Board) (m j : List ℕ) (mark : ℕ) (b' m' : List ℕ) (a : UndoAnswer) : Type 0 where
  pub block : b' ≡ (ibz_undo b board m j mark).b
  pub memory : m' ≡ (ibz_undo b board m j mark).m
  pub answer : a ≡ (ibz_undo b board m j mark).a
