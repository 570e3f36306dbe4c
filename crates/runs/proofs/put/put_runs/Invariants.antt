-- Invariants.antt - put_runs: what is left to write, written now, gives what was asked.
use Rattle.std.proofs.Common.{◌≡◌, ◌+◌, ◌≤◌, map, length}
use Rattle.std.specs.Slice.Iter.{chunk_by_rest}
use Rattle.record.specs.Limits.{byte_limit}
use Rattle.record.specs.Change.{unpack, between}
use Rattle.runs.specs.Runs.{runs, runs_bytes}
use Rattle.runs.proofs.PutLaws.{Left}
use Rattle.runs.proofs.put.put_runs.Given as goal

abbrev pub invariant-loop-run : goal.invariant-loop-run
invariant-loop-run l = record {
  few : l.count + length (chunk_by_rest l.run-iterator) ≤ byte_limit;
  left : Left l.fn.out l.at (runs_bytes (runs (between l.i l.n l.log))) l.out l.p (runs_bytes (runs (map unpack (chunk_by_rest l.run-iterator))));
  counted : l.count + length (runs (map unpack (chunk_by_rest l.run-iterator))) ≡ length (runs (between l.i l.n l.log));
}
