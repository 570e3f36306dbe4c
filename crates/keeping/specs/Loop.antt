-- Loop.antt - what a run's steps leave, so that another can go on: what a step leaves, sums that fit, and what reason 4 says.
-- Not part of any promise: `running` tells it to the run that drops records (crate machine).
-- Laws: proofs/LoopLaws.antt.  Source: [ours].
use Rattle.std.specs.Prelude.{ℕ, ◌-◌, ◌*◌, ◌≤◌, ◌<◌, ◌≡◌, false, List, length, eqb}
use Rattle.bank.specs.Bank.{mode_of}
use Rattle.record.specs.Limits.{longest_record}
use Rattle.step.specs.Steps.{most_clocks}
use Rattle.calls.specs.declared.RunAnswer.{RunAnswer}
use Rattle.taken.specs.Going.{GoesOn}

-- the run found room short, and nothing before that ended it  [ours]
pub record FoundFull (b : ℕ) (s j : List ℕ) (a : RunAnswer) : Type 0 where
  pub more : a.steps < b
  pub not_halted : eqb (mode_of s) 2 ≡ false
  pub not_stopped : eqb (mode_of s) 1 ≡ false
  pub short : length j - a.mark < longest_record

-- after the steps of a run, b its budget: it can go on, its sums fit, and reason 4 says that room is short  [ours]
pub record Ends (b : ℕ) (s₁ m m₁ j j₁ l l₁ : List ℕ) (a : RunAnswer) : Type 0 where
  pub goes : GoesOn s₁ m m₁ j j₁ l l₁ a.mark
  pub few : a.steps ≤ b
  pub sum : a.clocks ≤ most_clocks * a.steps
  pub full : a.reason ≡ 4 → FoundFull b s₁ j₁ a
