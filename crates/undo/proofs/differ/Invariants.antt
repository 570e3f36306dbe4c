-- Invariants.antt - differ: the test of what is left of the log is the test of all of it.
use Rattle.std.proofs.Common.{◌≡◌, ℕ}
use Rattle.std.specs.Prelude.{map}
use Rattle.record.specs.Change.{between, changes}
use Rattle.undo.specs.Undo.{differs}
use Rattle.undo.proofs.differ.Given as goal

abbrev pub invariant-loop-e : goal.invariant-loop-e
invariant-loop-e g l = (value : g.row.T.Denot → ℕ) → ((x : g.row.T.Denot) (y : ℕ) → g.T.Into.converts x y → y ≡ value x) → differs (map value l.held) (between l.e-index l.n l.log) ≡ differs (map value l.held) (changes l.log l.n)
