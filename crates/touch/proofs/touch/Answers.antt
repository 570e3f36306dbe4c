-- The place is last, is there, or is put before the next; a law for each.
use Prim.Native.Nat.{◌+◌, ◌<◌}
use native.Mathlib.Omega.{arith}
use mathlib.Core.Path.{ap, sym, ◌∙◌}
use mathlib.Core.List.{List}
use Prim.Native.Nat.{ℕ}
use Rattle.record.specs.Change.{changes}
use Rattle.record.proofs.ChangeLaws.{unpacked}
use Rattle.touch.proofs.RoomLaws.{changes_of_room}
use Rattle.touch.proofs.TouchLaws.{touch_new, touch_old, touch_last}
use Rattle.touch.proofs.touch.Goals as goal

pub returns-then-i-n-clause-log : goal.returns-then-i-n-clause-log
returns-then-i-n-clause-log c =
    let below = rw c.if-i-n.true at c.find_place-i.ensures.below in
    touch_last _ _ _ _ c.requires.0 c.ranges.old.fits below

pub returns-then-log-i-clause-log : goal.returns-then-log-i-clause-log
returns-then-log-i-clause-log c =
    let below_n : c.find_place-i.result < c.args.n = omega arith in
    sym (touch_old _ _ _ c.args.n _ below_n (omega arith) c.find_place-i.ensures.below c.if-log-i.true)

pub returns-clause-log : goal.returns-clause-log
returns-clause-log c =
    let found = c.find_place-i.ensures in
    let l = c.args.log.now in
    let n = c.args.n in
    let new = touch_new c.args.a c.args.old l n _ found.within (omega arith) found.below (λ q. let h = found.above q in omega arith) in
    let made = ap (λ (m : List ℕ). changes m (n + 1)) c.make_room.ensures in
    made ∙ changes_of_room l n _ _ found.within c.requires.0 ∙ rw (unpacked _ _ c.ranges.old.fits) (sym new)
