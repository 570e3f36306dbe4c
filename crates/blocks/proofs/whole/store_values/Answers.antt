-- store_values: what is left of the list, put now, gives all of it.
use Rattle.std.proofs.Common.{◌≤◌, arith}
use Rattle.blocks.proofs.WholeLaws.{whole_start, whole_index, whole_room, whole_ready, whole_less, whole_again, whole_memory}
use Rattle.blocks.proofs.whole.store_values.Goals as goal

pub loop-d-init : goal.loop-d-init
loop-d-init c = whole_start _ _ _ _ _ _ _ c.requires.log_ok.0 c.requires.inside.0 c.requires.inside.1 c.first_spot-d.ensures

pub bounds-t-i : goal.bounds-t-i
bounds-t-i c =
    let some : 1 ≤ c.loop-d.d.list = omega arith in
    let index = whole_index _ _ _ _ _ _ c.requires.inside.0 c.requires.log_ok.1 _ _ _ _ c.loop-d.invariant some _ c.skipped-e.ensures in
    omega (arith, index)

pub sized_above-m-requires-clause-le_z : goal.sized_above-m-requires-clause-le_z
sized_above-m-requires-clause-le_z c =
    let some : 1 ≤ c.loop-d.d.list = omega arith in
    whole_room _ _ _ _ _ _ c.requires.inside.0 c.requires.log_ok.1 _ _ _ _ c.loop-d.invariant some _ c.skipped-e.ensures

pub sized_above-m-requires-clause-log_ok : goal.sized_above-m-requires-clause-log_ok
sized_above-m-requires-clause-log_ok c =
    let some : 1 ≤ c.loop-d.d.list = omega arith in
    whole_ready _ _ _ _ _ _ c.requires.inside.0 c.requires.log_ok.1 _ _ _ _ c.loop-d.invariant some _ c.skipped-e.ensures

pub loop-d-smaller : goal.loop-d-smaller
loop-d-smaller c =
    let some : 1 ≤ c.loop-d.d.list = omega arith in
    whole_less _ _ _ _ _ _ c.requires.inside.0 c.requires.log_ok.1 _ _ _ _ c.loop-d.invariant some _ c.skipped-e.ensures _ c.passed-d.ensures

pub loop-d-preserved : goal.loop-d-preserved
loop-d-preserved c =
    let some : 1 ≤ c.loop-d.d.list = omega arith in
    let g = c.sized_above-m.ensures in
    whole_again _ _ _ _ _ _ c.requires.inside.0 c.requires.log_ok.1 _ _ _ _ c.loop-d.invariant some _ c.skipped-e.ensures
    _ _ _ _ c.passed-d.ensures g.memory g.noted g.below

pub returns-clause-memory : goal.returns-clause-memory
returns-clause-memory c = whole_memory _ _ _ _ _ _ _ _ _ _ _ c.loop-d.invariant c.loop-d-test.false c.first_spot-d.ensures
