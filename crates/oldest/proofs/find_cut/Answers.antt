-- Answers.antt - find_cut: what was seen so far of the way back; a law for each turn and return.
use Rattle.std.proofs.Common.{arith}
use Rattle.oldest.proofs.WayLaws.{seen_start, seen_torn, seen_goes, seen_stays, seen_end}
use Rattle.oldest.proofs.find_cut.Goals as goal

pub loop-e-init : goal.loop-e-init
loop-e-init c = seen_start _ _ _ _

pub returns-in_err-e : goal.returns-in_err-e
returns-in_err-e c =
    rw c.from_residual.ensures (seen_torn _ _ _ _ _ _ _ c.requires.0 (omega (arith, c.loop-e-test.true)) c.loop-e.invariant c.in_err-e.ensures)

pub loop-e-preserved-then-need-e : goal.loop-e-preserved-then-need-e
loop-e-preserved-then-need-e c =
    let t = c.in_ok-e.ensures in
    seen_stays _ _ _ _ _ _ _ c.requires.0 (omega (arith, c.loop-e-test.true)) c.loop-e.invariant (λ k. (c.type_inv.journal k).fits) _ _ _ t.1 t.0 c.if-need-e.true

pub loop-e-preserved : goal.loop-e-preserved
loop-e-preserved c =
    let t = c.in_ok-e.ensures in
    seen_goes _ _ _ _ _ _ _ c.requires.0 (omega (arith, c.loop-e-test.true)) c.loop-e.invariant (λ k. (c.type_inv.journal k).fits) _ _ _ t.1 t.0 c.if-need-e.false

pub returns : goal.returns
returns c = seen_end _ _ _ _ _ _ _ c.loop-e.invariant (omega (arith, c.loop-e-test.false))
