-- Answers.antt - read_changes: a law for each turn and return.
use Rattle.std.proofs.Common.{◌+◌, ◌-◌, ◌*◌, ◌^◌, ◌≤◌, length, suc, ap, sym, ◌∙◌, arith}
use Rattle.std.specs.Prelude.{◌≡◌, ◌∷◌}
use Rattle.record.specs.Change.{Change, between}
use Rattle.record.proofs.ChangeLaws.{ascending_raise, unpacked}
use Rattle.numbers.specs.Number.{back}
use Rattle.undo.specs.Undo.{read_changes}
use Rattle.undo.proofs.ReadLaws.{first_bad, second_bad, order_bad, one_read, filled, between_none}
use Rattle.undo.proofs.read_changes.Goals as goal

pub loop-k-init : goal.loop-k-init
loop-k-init c =
    let none = between_none c.args.out.now c.args.n in
    record {
      before = omega arith;
      same = ap (read_changes c.args.n c.args.limit (back c.args.journal.now c.args.end)) (sym none);
      below = omega arith;
      ascends = rw none tt;
    }

pub read_number-requires : goal.read_number-requires
read_number-requires c = omega arith

pub returns-in_err-old : goal.returns-in_err-old
returns-in_err-old c =
    rw c.from_residual.ensures (c.loop-k.invariant.same ∙ first_bad _ _ _ _ c.loop-k-test.true c.in_err-old.ensures)

pub read_number-requires-in-loop-k : goal.read_number-requires-in-loop-k
read_number-requires-in-loop-k c = omega (arith, c.in_ok-old.ensures.1)

pub returns-in_err-place : goal.returns-in_err-place
returns-in_err-place c =
    rw c.from_residual-in_err-place.ensures
    (c.loop-k.invariant.same ∙ second_bad _ _ _ _ c.loop-k-test.true _ _ c.in_ok-old.ensures.0 c.in_err-place.ensures)

pub returns-then-lim-place : goal.returns-then-lim-place
returns-then-lim-place c =
    c.loop-k.invariant.same
    ∙ order_bad _ _ _ _ c.loop-k-test.true _ _ c.in_ok-old.ensures.0 _ _ c.in_ok-place.ensures.0 c.if-lim-place.true

pub loop-k-preserved : goal.loop-k-preserved
loop-k-preserved c =
    let l = c.loop-k in
    let old = c.in_ok-old in
    let place = c.in_ok-place in
    let x = place.place * 2 ^ 32 + old.old in
    let acc = between l.k c.args.n l.out in
    let more = c.loop-k-test.true in
    let one = one_read _ _ _ acc more _ _ old.ensures.0 _ _ place.ensures.0 c.if-lim-place.false in
    let room : c.args.n ≤ length l.out = omega arith in
    let new = filled l.out l.k c.args.n x more l.auto.k room ∙ ap (λ (c : Change). c ∷ acc) (unpacked _ _ old.ensures.2) in
    record {
      before = omega (arith, old.ensures.1, place.ensures.1);
      same = l.invariant.same ∙ one ∙ ap (read_changes (l.k - 1) place.place (back c.args.journal.now place.e2)) (sym new);
      below = omega (arith, c.if-lim-place.false);
      ascends = rw new (omega arith, omega (arith, c.if-lim-place.false), ascending_raise _ (suc place.place) _ acc c.if-lim-place.false l.invariant.ascends);
    }

pub returns : goal.returns
returns c =
    let l = c.loop-k in
    let end : l.k ≡ 0 = omega arith in
    let up = ascending_raise l.lim 0 c.args.limit (between l.k c.args.n l.out) (omega arith) l.invariant.ascends in
    (l.invariant.same ∙ rw end, l.invariant.before, rw end at up)
