-- What is left of the log, written now, gives all that is kept of it.
use Prim.Native.Nat.{◌≤◌}
use Rattle.record.specs.Change.{kept, changes, between}
use Rattle.record.proofs.ChangeLaws.{Left}
use Rattle.record.proofs.put_bytes.Given as goal

abbrev pub invariant-loop-e : goal.invariant-loop-e
invariant-loop-e l =
    (l.count ≤ l.e-index)
    × Left l.fn.journal l.at (kept l.memory (changes l.log l.n)) l.journal (record { at = l.next; count = l.count }) (kept l.memory (between l.e-index l.n l.log))
