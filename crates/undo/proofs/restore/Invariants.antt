-- Invariants.antt - restore: what is left of the log, put back now, gives all of it put back.
use Rattle.std.proofs.Common.{◌≡◌, ℕ, ◌%◌, ◌^◌, ◌<◌, slice_index}
use Rattle.std.specs.Prelude.{map}
use Rattle.record.specs.Change.{restore, between, changes}
use Rattle.undo.proofs.restore.Given as goal

abbrev pub invariant-loop-e : goal.invariant-loop-e
invariant-loop-e g l =
    (value : g.row.T.Denot → ℕ)
    → ((i : ℕ) (x : g.row.T.Denot) → i < l.n → g.F.Fn.post l.of (slice_index l.log i, tt) x → value x ≡ slice_index l.log i % 2 ^ 32)
    → restore (between l.e-index l.n l.log) (map value l.held) ≡ restore (changes l.log l.n) (map value l.initial.held)
