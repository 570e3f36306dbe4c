-- In a turn the mask's lowest bit tells the place of the first of the changes that are left.
use Prim.Native.Nat.{ℕ, ◌/◌, ◌^◌, ◌≤◌, ◌<◌}
use mathlib.Core.Path.{◌≡◌, sym, ap, ◌∙◌}
use mathlib.Core.List.{[]}
use native.Mathlib.Omega.{arith}
use lib.ListN.{length}
use Rattle.record.specs.Change.{diffs}
use Rattle.record.specs.Mask.{mask}
use Rattle.record.proofs.ChangeLaws.{left_start, left_some, place_room, old_room, left_one, left_end}
use Rattle.record.proofs.DiffLaws.{length_of_diffs}
use Rattle.record.proofs.MaskLaws.{picked, picked_of_zero, picked_of_mask, picked_next, mask_bound}
use Rattle.record.proofs.MaskLaws.{zeros_some, place_bound, cleared_even, cleared_bound, cleared_less}
use Rattle.record.proofs.put_slots.Goals as goal

pub loop-m-init : goal.loop-m-init
loop-m-init c =
    let os = c.args.old.now in
    let ns = c.args.new.now in
    let r = c.differing-m.result in
    let half : mask os ns ≡ r / 2 = omega (arith, c.differing-m.ensures) in
    let all : diffs 0 os ns ≡ picked 0 (r / 2) os = sym (picked_of_mask 0 os ns) ∙ ap (λ (q : ℕ). picked 0 q os) half in
    let low : mask os ns < 2 ^ length os = mask_bound os ns in
    (c.told-old, omega (arith, c.differing-m.ensures), rw (← half) low, rw (← all) (left_start c.args.journal.now c.args.at (diffs 0 os ns)))

pub overflow_sub-k : goal.overflow_sub-k
overflow_sub-k c =
    let os = c.args.old.now in
    let q = c.loop-m in
    let short : length os ≤ 31 = omega arith in
    zeros_some os q.m short c.loop-m-test.true q.invariant.1 q.invariant.2

pub put_small-p-requires : goal.put_small-p-requires
put_small-p-requires c =
    let os = c.args.old.now in
    let q = c.loop-m in
    let short : length os ≤ 31 = omega arith in
    let next = picked_next os q.m short c.loop-m-test.true q.invariant.1 q.invariant.2 in
    (omega (arith, place_bound os q.m short c.loop-m-test.true q.invariant.1 q.invariant.2), place_room _ _ _ c.requires _ _ _ _ _ _ _ next q.invariant.3)

pub bounds-old-k : goal.bounds-old-k
bounds-old-k c =
    let os = c.args.old.now in
    let q = c.loop-m in
    let short : length os ≤ 31 = omega arith in
    omega (arith, place_bound os q.m short c.loop-m-test.true q.invariant.1 q.invariant.2)

pub put_number-p-requires : goal.put_number-p-requires
put_number-p-requires c =
    let os = c.args.old.now in
    let q = c.loop-m in
    let short : length os ≤ 31 = omega arith in
    let next = picked_next os q.m short c.loop-m-test.true q.invariant.1 q.invariant.2 in
    let f = c.put_small-p.ensures in
    old_room _ _ _ c.requires _ _ _ _ _ _ _ next q.invariant.3 _ _ f.next f.bytes

pub overflow_add-n : goal.overflow_add-n
overflow_add-n c =
    let os = c.args.old.now in
    let q = c.loop-m in
    let short : length os ≤ 31 = omega arith in
    let next = picked_next os q.m short c.loop-m-test.true q.invariant.1 q.invariant.2 in
    omega (arith, left_some _ _ _ c.requires _ _ _ _ _ _ _ next q.invariant.3, length_of_diffs 0 os c.args.new.now)

pub loop-m-smaller : goal.loop-m-smaller
loop-m-smaller c =
    let os = c.args.old.now in
    let q = c.loop-m in
    let short : length os ≤ 31 = omega arith in
    cleared_less os q.m short c.loop-m-test.true q.invariant.1 q.invariant.2

pub loop-m-preserved : goal.loop-m-preserved
loop-m-preserved c =
    let os = c.args.old.now in
    let q = c.loop-m in
    let short : length os ≤ 31 = omega arith in
    let next = picked_next os q.m short c.loop-m-test.true q.invariant.1 q.invariant.2 in
    let f = c.put_small-p.ensures in
    let g = c.put_number-p.ensures in (
      q.invariant.0,
      cleared_even os q.m short c.loop-m-test.true q.invariant.1 q.invariant.2,
      cleared_bound os q.m short c.loop-m-test.true q.invariant.1 q.invariant.2,
      left_one _ _ _ c.requires _ _ _ _ _ _ _ next q.invariant.3 _ _ f.next f.bytes _ _ g.next g.bytes,
    )

pub returns : goal.returns
returns c =
    let os = c.args.old.now in
    let q = c.loop-m in
    let none : picked 0 (q.m / 2) os ≡ [] = ap (λ (x : ℕ). picked 0 (x / 2) os) c.loop-m-test.false ∙ picked_of_zero 0 os in
    let done = left_end _ _ _ _ _ _ none q.invariant.3 in
    record { put = done; few = omega (arith, done.count, length_of_diffs 0 os c.args.new.now, q.invariant.0) }
