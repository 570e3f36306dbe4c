-- What is noted are the oldest of the starts that were passed, and the post.
use Prim.Native.Nat.{◌≤◌}
use lib.ListN.{length}
use Rattle.turned.specs.Turned.{turned}
use Rattle.starts.specs.Starts.{FillFrom}
use Rattle.starts.proofs.NearLaws.{Filling}
use Rattle.starts.proofs.near.fill_near.Given as goal

abbrev pub invariant-loop-e : goal.invariant-loop-e
invariant-loop-e l =
    let v = turned l.b l.h l.journal in
    (l.e ≤ l.mark) × (f : FillFrom l.len v l.mark l.base l.post) × Filling l.len v l.base f.all (length l.near) l.e l.i l.near

abbrev pub decreases-loop-e : goal.decreases-loop-e
decreases-loop-e l = l.e
