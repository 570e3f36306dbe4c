-- Invariants.antt - all_valid: the test of what is left of the log is the test of all of it.
use Rattle.std.proofs.Common.{◌≡◌}
use Rattle.record.specs.Change.{between, changes}
use Rattle.undo.specs.Undo.{all_valid, valid_for}
use Rattle.undo.proofs.all_valid.Given as goal

abbrev pub invariant-loop-e : goal.invariant-loop-e
invariant-loop-e l = all_valid (valid_for l.bytes) (between l.e-index l.n l.log) ≡ all_valid (valid_for l.bytes) (changes l.log l.n)
