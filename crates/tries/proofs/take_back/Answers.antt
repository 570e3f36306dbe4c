use Rattle.tries.proofs.TryLaws.{backing_again, backs_all, backs_refused}
use Rattle.tries.proofs.take_back.Goals as goal

pub returns-then-a-ne0 : goal.returns-then-a-ne0
returns-then-a-ne0 c = backs_refused c.loop-n.invariant c.loop-n-test.true c.undo-a.ensures c.if-a-ne0.true

pub loop-n-preserved : goal.loop-n-preserved
loop-n-preserved c = backing_again c.loop-n.invariant c.loop-n-test.true c.undo-a.ensures c.if-a-ne0.false

pub returns : goal.returns
returns c = backs_all c.loop-n.invariant c.loop-n-test.false
