-- Each law speaks of the turned journal, which is as long as the one that is read.
use native.Mathlib.Omega.{arith}
use mathlib.Core.Path.{sym, ◌∙◌}
use Rattle.turned.specs.Turned.{turned}
use Rattle.turned.proofs.TurnLaws.{length_turned}
use Rattle.starts.proofs.SkipLaws.{skip_start, skip_over, skip_turn, skip_end}
use Rattle.starts.proofs.near.record_start.Goals as goal

pub loop-left-init : goal.loop-left-init
loop-left-init c =
    let v = turned c.args.b c.args.h c.args.journal.now in
    let size = length_turned c.args.b c.args.h c.args.journal.now c.requires.0 c.requires.1 in
    (omega arith, skip_start v c.args.end c.byte_at.result c.byte_at-2.result c.requires.2 (omega (arith, c.requires.3)) c.byte_at.ensures.0 c.byte_at-2.ensures.0)

pub returns-then-s-eq0 : goal.returns-then-s-eq0
returns-then-s-eq0 c =
    let q = c.loop-left in
    (omega arith, sym (skip_over (turned c.args.b c.args.h c.args.journal.now) q.left q.s c.if-s-eq0.true) ∙ q.invariant.1)

pub loop-left-preserved : goal.loop-left-preserved
loop-left-preserved c =
    let v = turned c.args.b c.args.h c.args.journal.now in
    let size = length_turned c.args.b c.args.h c.args.journal.now c.requires.0 c.requires.1 in
    let q = c.loop-left in
    (omega arith, skip_turn v q.left q.s c.byte_at-in-loop-left.result c.loop-left-test.true (omega (arith, c.if-s-eq0.false)) (omega (arith, q.invariant.0, c.requires.3)) c.byte_at-in-loop-left.ensures.0 ∙ q.invariant.1)

pub returns : goal.returns
returns c =
    let q = c.loop-left in
    (q.invariant.0, sym (skip_end (turned c.args.b c.args.h c.args.journal.now) q.left q.s (omega arith)) ∙ q.invariant.1)
