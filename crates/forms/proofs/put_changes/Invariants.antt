-- Invariants.antt - put_changes: what is left to write, written now, gives what was asked.
use Rattle.std.proofs.Common.{map, drop}
use Rattle.record.specs.Change.{unpack, changes_bytes}
use Rattle.runs.proofs.PutLaws.{Left}
use Rattle.forms.proofs.put_changes.Given as goal

abbrev pub invariant-loop-e : goal.invariant-loop-e
invariant-loop-e l = Left l.fn.out l.at (changes_bytes (map unpack l.log)) l.out l.p (changes_bytes (map unpack (drop l.e-index l.log)))
