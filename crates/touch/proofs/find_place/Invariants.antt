-- From the end: every entry passed is not below the place.
use Prim.Native.Nat.{◌/◌, ◌^◌, ◌≤◌, ◌<◌}
use lib.ListN.{get_or}
use Rattle.touch.proofs.find_place.Given as goal

abbrev pub invariant-loop-i : goal.invariant-loop-i
invariant-loop-i l = l.i < l.n → l.a ≤ get_or l.log l.i 0 / 2 ^ 32
