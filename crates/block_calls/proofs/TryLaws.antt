-- TryLaws.antt - the tryer from C: the laws that its functions cite, and that its promises leave no choice.
-- * ibz_try_nine, ibz_try_held, ibz_back_nine, ibz_back_held: refusal 9, and a call of the tryer whose slots were read and written back.
-- * ibz_try_at_nine, ibz_back_at_nine: a block that is not 80 bytes long, and all stays.
-- * ibz_try_unique, ibz_back_unique: any two answers that a promise allows, with all that it leaves in what it was lent, are equal.
-- Source: [K1], [K7], [01 How much each promise says].
use Prim.Native.Nat.{ℕ}
use mathlib.Core.Path.{◌≡◌, ap, subst, ◌∙◌}
use mathlib.Core.List.{List}
use lib.ListN.{length}
use borrow.Author.Tests.{eq-eqb, ne_eqb}
use Rattle.bus.specs.declared.Window.{Window}
use Rattle.bus.specs.Bus.{Board}
use Rattle.tries.specs.declared.TryAnswer.{TryAnswer}
use Rattle.tries.specs.declared.BackAnswer.{BackAnswer}
use Rattle.tries.specs.Promises.{TryPromise, BackPromise}
use Rattle.block.specs.Block.{block_length, slots_in, block_of}
use Rattle.block_calls.specs.Calls.{no_block}
use Rattle.block_calls.specs.Tries.{try_refusal, back_refusal, ibz_try, ibz_back, IbzTryPromise, IbzBackPromise}

-- ---- a try
module _ (b : List ℕ) (board : Board) (m : List ℕ) (count : ℕ) (j : List ℕ) (mark : ℕ) where
  pub ibz_try_nine : (length b ≡ block_length → ⊥) → IbzTryPromise b board m count j mark b m j (try_refusal mark no_block)
  unfolding ibz_try
  ibz_try_nine h = let y = ne_eqb (length b) block_length h in record { block = rw y; memory = rw y; journal = rw y; answer = rw y }

  -- at 9 nothing is altered, and the try says that it is refused
  pub ibz_try_at_nine : (length b ≡ block_length → ⊥)
      → ibz_try b board m count j mark ≡ record { b = b; m = m; j = j; a = record { end = 5; number = 9; vector = 0; steps = 0; mark = mark } }
  unfolding ibz_try
  ibz_try_at_nine h = rw (ne_eqb (length b) block_length h)

  pub ibz_try_held : length b ≡ block_length → (s s₁ m₁ j₁ : List ℕ) (a : TryAnswer) → s ≡ slots_in b
      → TryPromise board s m count j mark s₁ m₁ j₁ a → (b₁ : List ℕ) → b₁ ≡ block_of s₁ → IbzTryPromise b board m count j mark b₁ m₁ j₁ a
  unfolding ibz_try
  ibz_try_held e s s₁ m₁ j₁ a l p b₁ q =
      let y = eq-eqb (length b) block_length e in
      let p' = subst (λ (t : List ℕ). TryPromise board t m count j mark s₁ m₁ j₁ a) l p in
      record { block = rw y (q ∙ ap block_of p'.slots); memory = rw y p'.memory; journal = rw y p'.journal; answer = rw y p'.answer }

  pub ibz_try_unique : (b₁ m₁ j₁ : List ℕ) (a₁ : TryAnswer) (b₂ m₂ j₂ : List ℕ) (a₂ : TryAnswer)
      → IbzTryPromise b board m count j mark b₁ m₁ j₁ a₁ → IbzTryPromise b board m count j mark b₂ m₂ j₂ a₂
      → (b₁ ≡ b₂) × (m₁ ≡ m₂) × (j₁ ≡ j₂) × (a₁ ≡ a₂)
  ibz_try_unique b₁ m₁ j₁ a₁ b₂ m₂ j₂ a₂ p q = (cc, cc, cc, cc)

-- ---- taking back
module _ (b : List ℕ) (board : Board) (m j : List ℕ) (mark steps : ℕ) (old : Window) where
  pub ibz_back_nine : (length b ≡ block_length → ⊥) → IbzBackPromise b board m j mark steps old b m (back_refusal board.window mark no_block)
  unfolding ibz_back
  ibz_back_nine h = let y = ne_eqb (length b) block_length h in record { block = rw y; memory = rw y; answer = rw y }

  -- at 9 nothing is altered, nothing undone, and the window stays
  pub ibz_back_at_nine : (length b ≡ block_length → ⊥)
      → ibz_back b board m j mark steps old ≡ record { b = b; m = m; j = j; a = record { number = 9; undone = 0; mark = mark; lo = board.window.lo; hi = board.window.hi } }
  unfolding ibz_back
  ibz_back_at_nine h = rw (ne_eqb (length b) block_length h)

  pub ibz_back_held : length b ≡ block_length → (s s₁ m₁ : List ℕ) (a : BackAnswer) → s ≡ slots_in b → BackPromise board old s m j mark steps s₁ m₁ a
      → (b₁ : List ℕ) → b₁ ≡ block_of s₁ → IbzBackPromise b board m j mark steps old b₁ m₁ a
  unfolding ibz_back
  ibz_back_held e s s₁ m₁ a l p b₁ q =
      let y = eq-eqb (length b) block_length e in
      let p' = subst (λ (t : List ℕ). BackPromise board old t m j mark steps s₁ m₁ a) l p in
      record { block = rw y (q ∙ ap block_of p'.slots); memory = rw y p'.memory; answer = rw y p'.answer }

  pub ibz_back_unique : (b₁ m₁ : List ℕ) (a₁ : BackAnswer) (b₂ m₂ : List ℕ) (a₂ : BackAnswer)
      → IbzBackPromise b board m j mark steps old b₁ m₁ a₁ → IbzBackPromise b board m j mark steps old b₂ m₂ a₂
      → (b₁ ≡ b₂) × (m₁ ≡ m₂) × (a₁ ≡ a₂)
  ibz_back_unique b₁ m₁ a₁ b₂ m₂ a₂ p q = (cc, cc, cc)
