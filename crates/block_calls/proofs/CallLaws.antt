-- CallLaws.antt - the laws that the functions of ibezofanle cite: refusal 9, and a call of the machine whose slots were read and written back.
-- * on_block_held: a call on a block that fits.
-- * ibz_reset_nine, .. -step-, -run-, -undo-nine; ibz_reset_held, .. -step-, -run-, -undo-held: the same as promises, of either manner.
-- Source: [K1], [K5], [K7].
use Prim.Native.Nat.{ℕ}
use mathlib.Core.Path.{◌≡◌, ap, subst, ◌∙◌}
use mathlib.Core.List.{List}
use lib.ListN.{length}
use borrow.Author.Tests.{eq-eqb, ne_eqb}
use Rattle.bus.specs.Bus.{Board}
use Rattle.calls.specs.declared.Manner.{Manner}
use Rattle.calls.specs.declared.ResetAnswer.{ResetAnswer}
use Rattle.calls.specs.declared.StepAnswer.{StepAnswer}
use Rattle.calls.specs.declared.RunAnswer.{RunAnswer}
use Rattle.calls.specs.declared.UndoAnswer.{UndoAnswer}
use Rattle.calls.specs.Promises.{ResetPromise, StepPromise, RunPromise, UndoPromise}
use Rattle.block.specs.Block.{block_length, slots_in, block_of}
use Rattle.block_calls.specs.Calls.{no_block, on_block, step_refusal, run_refusal, undo_refusal, ibz_reset, ibz_step, ibz_run, ibz_undo}
use Rattle.block_calls.specs.Promises.{IbzResetPromise, IbzStepPromise, IbzRunPromise, IbzUndoPromise}

-- ---- any call
module _ {A : Type 0} (b m j : List ℕ) (refusal : ℕ → A) (s₁ m₁ j₁ : List ℕ) (a : A) where
  pub on_block_held : length b ≡ block_length → on_block b m j refusal s₁ m₁ j₁ a ≡ record { b = block_of s₁; m = m₁; j = j₁; a = a }
  on_block_held e = rw (eq-eqb (length b) block_length e)

-- ---- reset
module _ (b m rom : List ℕ) where
  pub ibz_reset_nine : (length b ≡ block_length → ⊥) → IbzResetPromise b m rom b (record { number = no_block; lo = 0; hi = 0 })
  unfolding ibz_reset
  ibz_reset_nine h = let y = ne_eqb (length b) block_length h in record { block = rw y; answer = rw y }

  pub ibz_reset_held : length b ≡ block_length → (s : List ℕ) (a : ResetAnswer) → ResetPromise m rom s a
      → (b₁ : List ℕ) → b₁ ≡ block_of s → IbzResetPromise b m rom b₁ a
  unfolding ibz_reset
  ibz_reset_held e s a p b₁ q =
      let y = eq-eqb (length b) block_length e in record { block = rw y (q ∙ ap block_of p.slots); answer = rw y p.answer }

-- ---- step
module _ (w : Manner) (b : List ℕ) (board : Board) (m : List ℕ) (level vector : ℕ) (j : List ℕ) (mark : ℕ) where
  pub ibz_step_nine : (length b ≡ block_length → ⊥) → IbzStepPromise w b board m level vector j mark b m j (step_refusal mark no_block)
  unfolding ibz_step
  ibz_step_nine h = let y = ne_eqb (length b) block_length h in record { block = rw y; memory = rw y; journal = rw y; answer = rw y }

  pub ibz_step_held : length b ≡ block_length → (s s₁ m₁ j₁ : List ℕ) (a : StepAnswer) → s ≡ slots_in b
      → StepPromise w board s m level vector j mark s₁ m₁ j₁ a
      → (b₁ : List ℕ) → b₁ ≡ block_of s₁ → IbzStepPromise w b board m level vector j mark b₁ m₁ j₁ a
  unfolding ibz_step
  ibz_step_held e s s₁ m₁ j₁ a l p b₁ q =
      let y = eq-eqb (length b) block_length e in
      let p' = subst (λ (t : List ℕ). StepPromise w board t m level vector j mark s₁ m₁ j₁ a) l p in
      record { block = rw y (q ∙ ap block_of p'.slots); memory = rw y p'.memory; journal = rw y p'.journal; answer = rw y p'.answer }

-- ---- run
module _ (w : Manner) (b : List ℕ) (board : Board) (m : List ℕ) (budget stop : ℕ) (j : List ℕ) (mark : ℕ) where
  pub ibz_run_nine : (length b ≡ block_length → ⊥) → IbzRunPromise w b board m budget stop j mark b m j (run_refusal mark no_block)
  unfolding ibz_run
  ibz_run_nine h = let y = ne_eqb (length b) block_length h in record { block = rw y; memory = rw y; journal = rw y; answer = rw y }

  pub ibz_run_held : length b ≡ block_length → (s s₁ m₁ j₁ : List ℕ) (a : RunAnswer) → s ≡ slots_in b
      → RunPromise w board s m budget stop j mark s₁ m₁ j₁ a
      → (b₁ : List ℕ) → b₁ ≡ block_of s₁ → IbzRunPromise w b board m budget stop j mark b₁ m₁ j₁ a
  unfolding ibz_run
  ibz_run_held e s s₁ m₁ j₁ a l p b₁ q =
      let y = eq-eqb (length b) block_length e in
      let p' = subst (λ (t : List ℕ). RunPromise w board t m budget stop j mark s₁ m₁ j₁ a) l p in
      record { block = rw y (q ∙ ap block_of p'.slots); memory = rw y p'.memory; journal = rw y p'.journal; answer = rw y p'.answer }

-- ---- undo
module _ (b : List ℕ) (board : Board) (m j : List ℕ) (mark : ℕ) where
  pub ibz_undo_nine : (length b ≡ block_length → ⊥) → IbzUndoPromise b board m j mark b m (undo_refusal mark no_block)
  unfolding ibz_undo
  ibz_undo_nine h = let y = ne_eqb (length b) block_length h in record { block = rw y; memory = rw y; answer = rw y }

  pub ibz_undo_held : length b ≡ block_length → (s s₁ m₁ : List ℕ) (a : UndoAnswer) → s ≡ slots_in b → UndoPromise board s m j mark s₁ m₁ a
      → (b₁ : List ℕ) → b₁ ≡ block_of s₁ → IbzUndoPromise b board m j mark b₁ m₁ a
  unfolding ibz_undo
  ibz_undo_held e s s₁ m₁ a l p b₁ q =
      let y = eq-eqb (length b) block_length e in
      let p' = subst (λ (t : List ℕ). UndoPromise board t m j mark s₁ m₁ a) l p in
      record { block = rw y (q ∙ ap block_of p'.slots); memory = rw y p'.memory; answer = rw y p'.answer }
