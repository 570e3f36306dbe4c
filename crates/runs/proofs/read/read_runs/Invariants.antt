-- Invariants.antt - read_runs: what is left to read, read now, gives what was asked.
use Rattle.std.proofs.Common.{◌≡◌, suc, ◌-◌, ◌≤◌, []}
use Rattle.codes.specs.Codes.{Addresses}
use Rattle.numbers.specs.Number.{back}
use Rattle.record.specs.Limits.{byte_limit}
use Rattle.record.specs.Change.{between}
use Rattle.runs.specs.Runs.{read_runs}
use Rattle.runs.proofs.read.read_runs.Given as goal

abbrev pub invariant-loop : goal.invariant-loop
invariant-loop l = record {
  before : l.next.start ≤ l.end;
  low : l.next.first ≤ suc Addresses;
  room : l.next.at ≤ byte_limit;
  rest : read_runs l.n (suc Addresses) byte_limit (back l.journal l.end) []
      ≡ read_runs (l.n - l.counter) l.next.first l.next.at (back l.journal l.next.start) (between l.next.at byte_limit l.out);
}
