-- Verdict.antt - when a step or an undo agrees with what is wanted of it, and what a verdict has to tell.
-- Met by: src/verdicts.rt.
-- Source: [ours], crates/vectors/README.md.
use Rattle.std.specs.Prelude.{ℕ, ◌≡◌, List, Bool, true, Result, IsOk}

-- A step that is done, in time, and leaves all as it is wanted: slots, memory, mark and the whole journal. [ours]
pub record StepAgrees (number : ℕ) (s goal m wanted : List ℕ) (mark next : ℕ) (j recorded : List ℕ) (timely : Bool) : Type 0 where
  pub done : number ≡ 0
  pub slots : s ≡ goal
  pub memory : m ≡ wanted
  pub place : mark ≡ next
  pub journal : j ≡ recorded
  pub in_time : timely ≡ true

-- An undo that gives the number that is due, and leaves slots, memory and mark as they are wanted. [ours]
pub record UndoAgrees (number due : ℕ) (s goal m wanted : List ℕ) (mark last : ℕ) : Type 0 where
  pub answer : number ≡ due
  pub slots : s ≡ goal
  pub memory : m ≡ wanted
  pub place : mark ≡ last

-- A verdict that is Ok exactly where all agrees. [ours]
abbrev pub TellsAgrees : {T E : Type 0} → Result T E → Type 0 → Type 0
TellsAgrees r agrees = (IsOk r → agrees) × (agrees → IsOk r)
