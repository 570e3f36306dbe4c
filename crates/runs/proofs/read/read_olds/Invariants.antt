-- Invariants.antt - read_olds: what is left to read, read now, gives what was asked.
use Rattle.std.proofs.Common.{◌≡◌, ◌+◌, ◌≤◌}
use Rattle.numbers.specs.Number.{back}
use Rattle.record.specs.Limits.{byte_limit}
use Rattle.record.specs.Change.{between}
use Rattle.runs.specs.Runs.{read_olds}
use Rattle.runs.proofs.read.read_olds.Given as goal

abbrev pub invariant-loop-k : goal.invariant-loop-k
invariant-loop-k l = record {
  before : l.e ≤ l.end;
  rest : read_olds l.n l.first (back l.journal l.end) (between (l.at + l.n) byte_limit l.fn.out)
      ≡ read_olds l.k l.first (back l.journal l.e) (between (l.at + l.k) byte_limit l.out);
}
