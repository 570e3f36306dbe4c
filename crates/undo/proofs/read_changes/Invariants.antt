-- Invariants.antt - read_changes: what is left to read, read now, gives what was asked; what was read ascends.
use Rattle.std.proofs.Common.{◌≡◌, ◌≤◌, []}
use Rattle.record.specs.Change.{Ascending, between}
use Rattle.numbers.specs.Number.{back}
use Rattle.undo.specs.Undo.{read_changes}
use Rattle.undo.proofs.read_changes.Given as goal

abbrev pub invariant-loop-k : goal.invariant-loop-k
invariant-loop-k l = record {
  before : l.e ≤ l.end;
  same : read_changes l.n l.limit (back l.journal l.end) [] ≡ read_changes l.k l.lim (back l.journal l.e) (between l.k l.n l.out);
  below : l.lim ≤ l.limit;
  ascends : Ascending l.lim l.limit (between l.k l.n l.out);
}
