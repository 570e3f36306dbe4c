-- Those before the entry found are below the place, by the order.
use Prim.Native.Nat.{◌+◌, ◌-◌}
use mathlib.Core.Path.{◌≡◌}
use native.Mathlib.Omega.{arith}
use Rattle.touch.proofs.RoomLaws.{all_below}
use Rattle.touch.proofs.find_place.Goals as goal

pub returns-then-log-i : goal.returns-then-log-i
returns-then-log-i c =
    let e : c.loop-i.i - 1 + 1 ≡ c.loop-i.i = omega arith in
    rw e
    (record {
      within = omega arith;
      below = all_below _ _ _ _ c.loop-i.i _ c.requires.1 (omega arith) (omega arith) c.requires.0 c.if-log-i.true;
      above = c.loop-i.invariant;
    })
