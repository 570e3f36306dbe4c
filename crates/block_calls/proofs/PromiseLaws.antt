-- PromiseLaws.antt - any two answers that a call from C may give, with all that it leaves in what it was lent, are equal.
-- * ibz_reset_unique, ibz_step_unique, ibz_run_unique, ibz_undo_unique: step and run in either manner.
-- Source: [01 How much each promise says], [K5].
use Prim.Native.Nat.{ℕ}
use mathlib.Core.Path.{◌≡◌}
use mathlib.Core.List.{List}
use Rattle.bus.specs.Bus.{Board}
use Rattle.calls.specs.declared.Manner.{Manner}
use Rattle.calls.specs.declared.ResetAnswer.{ResetAnswer}
use Rattle.calls.specs.declared.StepAnswer.{StepAnswer}
use Rattle.calls.specs.declared.RunAnswer.{RunAnswer}
use Rattle.calls.specs.declared.UndoAnswer.{UndoAnswer}
use Rattle.block_calls.specs.Promises.{IbzResetPromise, IbzStepPromise, IbzRunPromise, IbzUndoPromise}

pub ibz_reset_unique : (b m rom b₁ b₂ : List ℕ) (a₁ a₂ : ResetAnswer) → IbzResetPromise b m rom b₁ a₁ → IbzResetPromise b m rom b₂ a₂ → (b₁ ≡ b₂) × (a₁ ≡ a₂)
ibz_reset_unique b m rom b₁ b₂ a₁ a₂ p q = (cc, cc)

pub ibz_step_unique : (w : Manner) (b : List ℕ) (board : Board) (m : List ℕ) (level vector : ℕ) (j : List ℕ) (mark : ℕ)
    (b₁ m₁ j₁ : List ℕ) (a₁ : StepAnswer) (b₂ m₂ j₂ : List ℕ) (a₂ : StepAnswer)
    → IbzStepPromise w b board m level vector j mark b₁ m₁ j₁ a₁ → IbzStepPromise w b board m level vector j mark b₂ m₂ j₂ a₂
    → (b₁ ≡ b₂) × (m₁ ≡ m₂) × (j₁ ≡ j₂) × (a₁ ≡ a₂)
ibz_step_unique w b board m level vector j mark b₁ m₁ j₁ a₁ b₂ m₂ j₂ a₂ p q = (cc, cc, cc, cc)

pub ibz_run_unique : (w : Manner) (b : List ℕ) (board : Board) (m : List ℕ) (budget stop : ℕ) (j : List ℕ) (mark : ℕ)
    (b₁ m₁ j₁ : List ℕ) (a₁ : RunAnswer) (b₂ m₂ j₂ : List ℕ) (a₂ : RunAnswer)
    → IbzRunPromise w b board m budget stop j mark b₁ m₁ j₁ a₁ → IbzRunPromise w b board m budget stop j mark b₂ m₂ j₂ a₂
    → (b₁ ≡ b₂) × (m₁ ≡ m₂) × (j₁ ≡ j₂) × (a₁ ≡ a₂)
ibz_run_unique w b board m budget stop j mark b₁ m₁ j₁ a₁ b₂ m₂ j₂ a₂ p q = (cc, cc, cc, cc)

pub ibz_undo_unique : (b : List ℕ) (board : Board) (m j : List ℕ) (mark : ℕ) (b₁ m₁ : List ℕ) (a₁ : UndoAnswer) (b₂ m₂ : List ℕ) (a₂ : UndoAnswer)
    → IbzUndoPromise b board m j mark b₁ m₁ a₁ → IbzUndoPromise b board m j mark b₂ m₂ a₂
    → (b₁ ≡ b₂) × (m₁ ≡ m₂) × (a₁ ≡ a₂)
ibz_undo_unique b board m j mark b₁ m₁ a₁ b₂ m₂ a₂ p q = (cc, cc, cc)
