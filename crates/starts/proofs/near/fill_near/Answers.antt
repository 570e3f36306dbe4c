-- Each law speaks of the turned journal, which is as long as the one that is read.
use Prim.Native.Nat.{◌+◌, ◌-◌}
use native.Mathlib.Omega.{arith}
use mathlib.Core.Path.{refl}
use lib.ListN.{length, set, length-set}
use Rattle.turned.specs.Turned.{turned}
use Rattle.turned.proofs.TurnLaws.{length_turned}
use Rattle.starts.proofs.NearLaws.{filling_start, filling_two, filling_less, filling_more, fill_done}
use Rattle.starts.proofs.near.fill_near.Goals as goal

pub loop-e-init : goal.loop-e-init
loop-e-init c =
    let a = c.args in
    let v = turned a.b a.h a.journal.now in
    let size = length_turned a.b a.h a.journal.now c.requires.mark_in_bounds.1 c.requires.mark_in_bounds.2 in
    let n = length a.near.now in
    let f = c.requires.near_nonzero.1 in
    (f.below, f, rw (length-set a.near.now (n - 1) a.post) (filling_start a.len v a.mark a.base a.post (omega arith) f n a.near.now (set a.near.now (n - 1) a.post) c.requires.near_nonzero.0 (omega arith) refl))

pub record_start-e-requires : goal.record_start-e-requires
record_start-e-requires c =
    let a = c.args in
    let v = turned a.b a.h a.journal.now in
    let size = length_turned a.b a.h a.journal.now c.requires.mark_in_bounds.1 c.requires.mark_in_bounds.2 in
    let q = c.loop-e in
    (c.requires.mark_in_bounds.1, c.requires.mark_in_bounds.2, filling_two a.len v a.base q.invariant.1.all (length q.near) q.e q.i q.near c.requires.mark_in_bounds.3 q.invariant.2 c.loop-e-test.true, omega (arith, q.invariant.2.inside))

pub loop-e-smaller : goal.loop-e-smaller
loop-e-smaller c =
    let a = c.args in
    let q = c.loop-e in
    let r = c.record_start-e in
    filling_less a.len (turned a.b a.h a.journal.now) a.base q.invariant.1.all (length q.near) q.e q.i q.near c.requires.mark_in_bounds.3 q.invariant.2 c.loop-e-test.true r.result r.ensures.0 r.ensures.1

pub loop-e-preserved : goal.loop-e-preserved
loop-e-preserved c =
    let a = c.args in
    let q = c.loop-e in
    let r = c.record_start-e in
    let k = c.entry_below-i in
    let x = a.base + r.result in
    let more = filling_more a.len (turned a.b a.h a.journal.now) a.base q.invariant.1.all (length q.near) q.e q.i q.near c.requires.mark_in_bounds.3 q.invariant.2 c.loop-e-test.true r.result r.ensures.0 r.ensures.1 k.result k.new.near (set k.new.near k.result x) refl k.auto.near k.ensures refl in
    (omega arith, q.invariant.1, rw (length-set k.new.near k.result x, k.auto.near) more)

pub returns : goal.returns
returns c =
    let a = c.args in
    let q = c.loop-e in
    fill_done a.len (turned a.b a.h a.journal.now) a.mark a.base a.post q.invariant.1 (length q.near) q.e q.i q.near q.invariant.2 (omega arith) refl
