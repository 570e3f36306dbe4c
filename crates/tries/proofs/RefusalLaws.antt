-- RefusalLaws.antt - demand 1 of the tryer: its first step's refusals are given exactly when the table says, and then nothing is altered.
-- * try_verdict: the number is n if and only if n is that of the first line of the table that applies; it is 0 if and only if no line does.
-- * try_refused: a try that a number refuses takes no step, and leaves slots, memory, journal and mark as given.
-- Source: [K7], [01 Calls and what they give back].
use Prim.Native.Nat.{ℕ}
use native.Mathlib.Omega.{arith}
use mathlib.Core.Path.{◌≡◌}
use mathlib.Core.List.{List}
use lib.ListN.{length}
use borrow.Author.Tests.{ne_eqb}
use Rattle.bus.specs.Bus.{Board}
use Rattle.bank.specs.Bank.{mode_of}
use Rattle.calls.specs.declared.Manner.TheVariants.{Keeping}
use Rattle.calls.specs.Refusals.{zero_at_end}
use Rattle.calls.proofs.RefusalLaws.{Verdict, verdict, first_given, below_given, equal_given, room_given}
use Rattle.tries.specs.Tries.{ended, try_number, try_call}
use Rattle.tries.specs.Refusals.{try_table}

module _ (board : Board) (s m : List ℕ) (count : ℕ) (j : List ℕ) (mark : ℕ) where
  pub try_verdict : Verdict (try_table board s m count j mark) (try_number board s m count j mark)
  unfolding try_number
  try_verdict =
      let last = room_given (equal_given zero_at_end 6 (mode_of s) 2) 5 Keeping j mark in
      verdict (try_table board s m count j mark) (try_number board s m count j mark) (omega arith)
      (first_given board s m (below_given (below_given last 4 (length j) mark) 3 1000000 count))

  pub try_refused : (try_number board s m count j mark ≡ 0 → ⊥) → try_call board s m count j mark ≡ ended 5 (try_number board s m count j mark) 0 0 s m j mark
  unfolding try_call
  try_refused h = rw (ne_eqb (try_number board s m count j mark) 0 h)
