-- What is left of the changes, the mask's lowest place first, written now, gives all of them.
use Prim.Native.Nat.{◌/◌, ◌%◌, ◌^◌, ◌<◌}
use mathlib.Core.Path.{◌≡◌}
use lib.ListN.{length}
use Rattle.record.specs.Limits.{slot_limit}
use Rattle.record.specs.Change.{diffs}
use Rattle.record.proofs.ChangeLaws.{Left}
use Rattle.record.proofs.MaskLaws.{picked}
use Rattle.record.proofs.put_slots.Given as goal

abbrev pub invariant-loop-m : goal.invariant-loop-m
invariant-loop-m l =
    (length l.old ≡ slot_limit) × (l.m % 2 ≡ 0) × (l.m / 2 < 2 ^ length l.old)
    × Left l.fn.journal l.at (diffs 0 l.old l.new) l.journal (record { at = l.p; count = l.n }) (picked 0 (l.m / 2) l.old)

abbrev pub decreases-loop-m : goal.decreases-loop-m
decreases-loop-m l = l.m
