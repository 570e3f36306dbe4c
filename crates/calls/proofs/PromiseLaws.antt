-- PromiseLaws.antt - any two answers that a call's promise allows, with all that it leaves in what it was lent, are equal.
-- * reset_unique, step_unique, run_unique, undo_unique.
-- Source: [01 How much each promise says].
use Prim.Native.Nat.{ℕ}
use mathlib.Core.Path.{◌≡◌}
use mathlib.Core.List.{List}
use Rattle.bus.specs.Bus.{Board}
use Rattle.calls.specs.declared.Manner.{Manner}
use Rattle.calls.specs.declared.ResetAnswer.{ResetAnswer}
use Rattle.calls.specs.declared.StepAnswer.{StepAnswer}
use Rattle.calls.specs.declared.RunAnswer.{RunAnswer}
use Rattle.calls.specs.declared.UndoAnswer.{UndoAnswer}
use Rattle.calls.specs.Promises.{ResetPromise, StepPromise, RunPromise, UndoPromise}

pub reset_unique : (m rom s₁ s₂ : List ℕ) (a₁ a₂ : ResetAnswer) → ResetPromise m rom s₁ a₁ → ResetPromise m rom s₂ a₂ → (s₁ ≡ s₂) × (a₁ ≡ a₂)
reset_unique m rom s₁ s₂ a₁ a₂ p q = (cc, cc)

pub step_unique : (w : Manner) (board : Board) (s m : List ℕ) (level vector : ℕ) (j : List ℕ) (mark : ℕ) (s₁ m₁ j₁ : List ℕ) (a₁ : StepAnswer) (s₂ m₂ j₂ : List ℕ) (a₂ : StepAnswer)
    → StepPromise w board s m level vector j mark s₁ m₁ j₁ a₁ → StepPromise w board s m level vector j mark s₂ m₂ j₂ a₂
    → (s₁ ≡ s₂) × (m₁ ≡ m₂) × (j₁ ≡ j₂) × (a₁ ≡ a₂)
step_unique w board s m level vector j mark s₁ m₁ j₁ a₁ s₂ m₂ j₂ a₂ p q = (cc, cc, cc, cc)

pub run_unique : (w : Manner) (board : Board) (s m : List ℕ) (budget stop : ℕ) (j : List ℕ) (mark : ℕ) (s₁ m₁ j₁ : List ℕ) (a₁ : RunAnswer) (s₂ m₂ j₂ : List ℕ) (a₂ : RunAnswer)
    → RunPromise w board s m budget stop j mark s₁ m₁ j₁ a₁ → RunPromise w board s m budget stop j mark s₂ m₂ j₂ a₂
    → (s₁ ≡ s₂) × (m₁ ≡ m₂) × (j₁ ≡ j₂) × (a₁ ≡ a₂)
run_unique w board s m budget stop j mark s₁ m₁ j₁ a₁ s₂ m₂ j₂ a₂ p q = (cc, cc, cc, cc)

pub undo_unique : (board : Board) (s m j : List ℕ) (mark : ℕ) (s₁ m₁ : List ℕ) (a₁ : UndoAnswer) (s₂ m₂ : List ℕ) (a₂ : UndoAnswer)
    → UndoPromise board s m j mark s₁ m₁ a₁ → UndoPromise board s m j mark s₂ m₂ a₂
    → (s₁ ≡ s₂) × (m₁ ≡ m₂) × (a₁ ≡ a₂)
undo_unique board s m j mark s₁ m₁ a₁ s₂ m₂ a₂ p q = (cc, cc, cc)
