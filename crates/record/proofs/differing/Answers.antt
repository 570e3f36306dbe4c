-- A turn of the zip is at the place that was reached, with what both lists have there.
use Prim.Native.Nat.{ℕ, ◌+◌, ◌^◌, ◌≤◌, ◌<◌}
use mathlib.Core.Path.{◌≡◌, sym, ◌∙◌}
use mathlib.Core.List.{List, [], ◌∷◌, ◌++◌}
use native.Mathlib.Omega.{arith}
use lib.ListN.{length, get_or, length-append}
use lib.Pow.{pow_mono}
use Rattle.std.specs.Iterator.Adapters.{zip_first, zip_second}
use Rattle.std.specs.Slice.Iter.{iter_rest}
use Rattle.std.proofs.lemmas.Slice.Zip.{zip_turn}
use Rattle.record.specs.Limits.{slot_limit}
use Rattle.record.proofs.MaskLaws.{masked_same, masked_other}
use Rattle.record.proofs.differing.Goals as goal
use Rattle.record.proofs.differing.Goals.{then-o-n, else-o-n}

module _ (c : goal.Joined-o-n) where
  abbrev os : List ℕ
  os = c.args.old.now

  abbrev ns : List ℕ
  ns = c.args.new.now

  abbrev i : ℕ
  i = length c.loop-o.yielded

  turn : (i < length os) × (i < length ns) × ((d : ℕ) → c.in-Some.o.now ≡ get_or os i d) × ((d : ℕ) → c.in-Some.n.now ≡ get_or ns i d)
  turn =
      let s = c.into_iter-o-iterator.result in
      let first : iter_rest (zip_first s) ≡ os = cc in
      let second : iter_rest (zip_second s) ≡ ns = cc in
      zip_turn os ns c.loop-o.yielded s c.loop-o.o-iterator c.next.new.self c.next.result first second c.loop-o.yielded_by (c.in-Some.o, c.in-Some.n) c.in-Some.is c.next.ensures.steps

pub overflow_mul-w : goal.overflow_mul-w
overflow_mul-w c =
    let t = turn c in
    let low : 2 ^ (i c + 1) ≤ 2 ^ slot_limit = pow_mono {j = slot_limit} (omega arith) in
    omega (arith, c.loop-o.invariant.weight)

pub loop-o-preserved : goal.loop-o-preserved
loop-o-preserved c =
    let t = turn c in
    let long : length (os c) ≡ length (ns c) = omega arith in
    let next : length (c.loop-o.yielded ++ (c.in-Some.o, c.in-Some.n) ∷ []) ≡ i c + 1 = length-append c.loop-o.yielded ((c.in-Some.o, c.in-Some.n) ∷ []) in
    rw next
    (elim c.if-o-n.branch [
      | then-o-n w ↦
          rw w.m-is (masked_other (os c) (ns c) _ _ (i c) long t.0 c.loop-o.invariant (λ e. w.if-o-n.true (t.2 0 ∙ e ∙ sym (t.3 0))))
      | else-o-n w ↦
          rw w.m-is (masked_same (os c) (ns c) _ _ (i c) long t.0 c.loop-o.invariant (sym (t.2 0) ∙ w.if-o-n.false ∙ t.3 0))
    ])
