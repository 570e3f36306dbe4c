-- PromiseLaws.antt - any two answers that a promise of the tryer allows, with all that it leaves in what it was lent, are equal.
-- * try_unique, back_unique.
-- Source: [01 How much each promise says], [K7].
use Prim.Native.Nat.{ℕ}
use mathlib.Core.Path.{◌≡◌}
use mathlib.Core.List.{List}
use Rattle.bus.specs.declared.Window.{Window}
use Rattle.bus.specs.Bus.{Board}
use Rattle.tries.specs.declared.TryAnswer.{TryAnswer}
use Rattle.tries.specs.declared.BackAnswer.{BackAnswer}
use Rattle.tries.specs.Promises.{TryPromise, BackPromise}

pub try_unique : (board : Board) (s m : List ℕ) (count : ℕ) (j : List ℕ) (mark : ℕ) (s₁ m₁ j₁ : List ℕ) (a₁ : TryAnswer) (s₂ m₂ j₂ : List ℕ) (a₂ : TryAnswer)
    → TryPromise board s m count j mark s₁ m₁ j₁ a₁ → TryPromise board s m count j mark s₂ m₂ j₂ a₂ → (s₁ ≡ s₂) × (m₁ ≡ m₂) × (j₁ ≡ j₂) × (a₁ ≡ a₂)
try_unique board s m count j mark s₁ m₁ j₁ a₁ s₂ m₂ j₂ a₂ p q = (cc, cc, cc, cc)

pub back_unique : (board : Board) (old : Window) (s m j : List ℕ) (mark steps : ℕ) (s₁ m₁ : List ℕ) (a₁ : BackAnswer) (s₂ m₂ : List ℕ) (a₂ : BackAnswer)
    → BackPromise board old s m j mark steps s₁ m₁ a₁ → BackPromise board old s m j mark steps s₂ m₂ a₂ → (s₁ ≡ s₂) × (m₁ ≡ m₂) × (a₁ ≡ a₂)
back_unique board old s m j mark steps s₁ m₁ a₁ s₂ m₂ a₂ p q = (cc, cc, cc)
