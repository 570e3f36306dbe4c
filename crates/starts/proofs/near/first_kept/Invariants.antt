-- What was passed is below need.
use Prim.Native.Nat.{ℕ, ◌-◌, ◌≤◌, ◌<◌}
use lib.ListN.{get_or}
use Rattle.starts.proofs.near.first_kept.Given as goal

abbrev pub invariant-loop-k : goal.invariant-loop-k
invariant-loop-k l = (q : ℕ) → l.i ≤ q → q < l.k → get_or l.near q 0 - l.base < l.need
