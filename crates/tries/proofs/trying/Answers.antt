use Rattle.tries.proofs.TryLaws.{trying_again, tries_spent, tries_refused, tries_halts, tries_excepts}
use Rattle.tries.proofs.trying.Goals as goal

pub returns-then-a-ne0 : goal.returns-then-a-ne0
returns-then-a-ne0 c =
    let e = tries_refused c.loop-n.invariant c.loop-n-test.true c.step_keeping-a.ensures c.if-a-ne0.true in rw c.ended.ensures e

pub returns-then-a-eq-HALT_EVENT : goal.returns-then-a-eq-HALT_EVENT
returns-then-a-eq-HALT_EVENT c =
    let e = tries_halts c.loop-n.invariant c.loop-n-test.true c.step_keeping-a.ensures c.if-a-ne0.false c.if-a-eq-HALT_EVENT.true in
    rw c.ended-then-a-eq-HALT_EVENT.ensures e

pub returns-then-a-ne-NO_EVENT : goal.returns-then-a-ne-NO_EVENT
returns-then-a-ne-NO_EVENT c =
    let q = c.if-a-ne-NO_EVENT.true in
    let e = tries_excepts c.loop-n.invariant c.loop-n-test.true c.step_keeping-a.ensures c.if-a-ne0.false c.if-a-eq-HALT_EVENT.false q in
    rw c.ended-then-a-ne-NO_EVENT.ensures e

pub loop-n-preserved : goal.loop-n-preserved
loop-n-preserved c = trying_again c.loop-n.invariant c.loop-n-test.true c.step_keeping-a.ensures c.if-a-ne0.false c.if-a-ne-NO_EVENT.false

pub returns : goal.returns
returns c = let e = tries_spent c.loop-n.invariant c.loop-n-test.false in rw c.ended-2.ensures e
