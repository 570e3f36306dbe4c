-- The entry of the turn is the log's: its place is in memory and its old value is a byte; it is kept, or what is left is the same without it.
use Prim.Native.Nat.{◌<◌}
use native.Mathlib.Omega.{arith}
use lib.ListN.{length-take}
use lib.Seq.{get_or-take}
use Rattle.record.proofs.ChangeLaws.{change_room, left_change, kept_when_same, kept_when_other, ascending_at, olds_at}
use Rattle.record.proofs.put_bytes.Goals as goal
use Rattle.record.proofs.put_bytes.Goals.{then-old-memory, else-old-memory}

pub bounds-memory-place : goal.bounds-memory-place
bounds-memory-place c =
    let i = c.loop-e.e-index in
    let h : i < c.args.n = omega (arith, length-take c.args.n c.args.log.now) in
    rw (get_or-take c.args.n c.args.log.now i 0 h) (ascending_at _ _ _ _ i c.requires.n_in_bounds.2 h (omega arith))

pub put_change-next-requires : goal.put_change-next-requires
put_change-next-requires c =
    let i = c.loop-e.e-index in
    let h : i < c.args.n = omega (arith, length-take c.args.n c.args.log.now) in
    let entry = get_or-take c.args.n c.args.log.now i 0 h in
    let other = rw entry at c.if-old-memory.true in
    let next = kept_when_other c.args.memory.now c.args.log.now i c.args.n h c.requires.n_in_bounds.0 other in
    rw entry (
      olds_at _ _ i c.requires.n_in_bounds.3 h (omega arith),
      change_room _ _ _ c.requires.n_in_bounds_2 _ _ _ _ _ _ _ next c.loop-e.invariant.1,
    )

pub loop-e-preserved : goal.loop-e-preserved
loop-e-preserved c =
    let i = c.loop-e.e-index in
    let h : i < c.args.n = omega (arith, length-take c.args.n c.args.log.now) in
    let entry = get_or-take c.args.n c.args.log.now i 0 h in
    elim c.if-old-memory.branch [
      | then-old-memory w ↦
          let other = rw entry at w.if-old-memory.true in
          let next = kept_when_other c.args.memory.now c.args.log.now i c.args.n h c.requires.n_in_bounds.0 other in
          let g = rw entry at w.put_change-next.ensures in
          (omega arith, rw (w.journal-is, w.next-is, w.count-is) (left_change _ _ _ c.requires.n_in_bounds_2 _ _ _ _ _ _ _ next c.loop-e.invariant.1 _ _ g.next g.bytes))
      | else-old-memory w ↦
          let same = rw entry at w.if-old-memory.false in
          (omega arith, rw (w.journal-is, w.next-is, w.count-is, ← kept_when_same c.args.memory.now c.args.log.now i c.args.n h c.requires.n_in_bounds.0 same) c.loop-e.invariant.1)
    ]
