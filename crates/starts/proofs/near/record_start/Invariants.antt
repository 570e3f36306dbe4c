-- What is left to pass.
use mathlib.Core.Path.{◌≡◌}
use Prim.Native.Nat.{◌≤◌}
use Rattle.numbers.specs.Number.{back}
use Rattle.turned.specs.Turned.{turned}
use Rattle.starts.specs.Starts.{after_lows, before_record}
use Rattle.starts.proofs.near.record_start.Given as goal

abbrev pub invariant-loop-left : goal.invariant-loop-left
invariant-loop-left l = (l.s ≤ l.end) × (after_lows l.left (back (turned l.b l.h l.journal) l.s) ≡ before_record (back (turned l.b l.h l.journal) l.end))

abbrev pub decreases-loop-left : goal.decreases-loop-left
decreases-loop-left l = l.s
