-- Refusals.antt - the numbers of the refusals, and the number that a judgment gives: 0 where nothing is refused.
-- Not here: when each refusal is given (Calls.antt and Refusals.antt of the crate calls).
-- Source: [01 Calls and what they give back], [K5], [K7], [K8], [K10].
use Rattle.std.specs.Prelude.{ℕ, Result, Ok, Err}
use Rattle.refusals.specs.declared.Refusal.{Refusal}
use Rattle.refusals.specs.declared.Refusal.TheVariants.{Memory, State, TooHigh, Mark, NoRoom, Halted, NothingToUndo, Torn, Block, Window, ShortTarget, Rom, NoPart}

-- each refusal's number in the tables  [01 Calls, table] [K5] [K7] [K8] [K10]
abbrev pub refusal_number : Refusal → ℕ
refusal_number Memory = 1
refusal_number State = 2
refusal_number TooHigh = 3
refusal_number Mark = 4
refusal_number NoRoom = 5
refusal_number Halted = 6
refusal_number NothingToUndo = 7
refusal_number Torn = 8
refusal_number Block = 9
refusal_number Window = 10
refusal_number ShortTarget = 11
refusal_number Rom = 12
refusal_number NoPart = 13

-- the number that a judgment gives: the refusal's, or 0 where there is none  [01 Calls, table]
abbrev pub number_given : {A : Type 0} → Result A Refusal → ℕ
number_given (Ok a) = 0
number_given (Err refusal) = refusal_number refusal
