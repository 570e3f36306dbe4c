-- Going.antt - what a step leaves so that a run can go on: a state and a memory that fit, lengths as they were.
-- Not part of any promise: `step_taken` tells it to the runs (crates keeping and full).
-- Laws: proofs/TakenLaws.antt.  Source: [ours].
use Rattle.std.specs.Prelude.{ℕ, ◌≤◌, ◌≡◌, true, List, length}
use Rattle.calls.specs.Calls.{memory_fits, state_fits}

-- slots s₁ after the step; memory, journal and log before and after; the mark after  [ours]
pub record GoesOn (s₁ m m₁ j j₁ l l₁ : List ℕ) (mark : ℕ) : Type 0 where
  pub state : state_fits s₁ ≡ true
  pub memory : memory_fits m₁ ≡ true
  pub same_memory : length m₁ ≡ length m
  pub same_journal : length j₁ ≡ length j
  pub same_log : length l₁ ≡ length l
  pub inside : mark ≤ length j₁
