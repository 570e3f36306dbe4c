-- Invariants.antt - put_olds: what is left to write, written now, gives what was asked.
use Rattle.std.proofs.Common.{map, drop}
use Rattle.record.specs.Change.{unpack}
use Rattle.runs.specs.Runs.{numbers_bytes}
use Rattle.runs.specs.Answers.{olds}
use Rattle.runs.proofs.PutLaws.{Left}
use Rattle.runs.proofs.put.put_olds.Given as goal

abbrev pub invariant-loop-e : goal.invariant-loop-e
invariant-loop-e l = Left l.fn.out l.at (numbers_bytes (olds (map unpack l.log))) l.out l.p (numbers_bytes (olds (map unpack (drop l.e-index l.log))))
