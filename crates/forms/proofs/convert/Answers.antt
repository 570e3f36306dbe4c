-- Answers.antt - convert: what measuring said, and then the writing.
use Rattle.forms.proofs.ConvertLaws.{promise_when_unfit, promise_when_fits}
use Rattle.forms.proofs.convert.Goals as goal

pub returns-in-Ok : goal.returns-in-Ok
returns-in-Ok c = promise_when_fits c.args.form c.args.journal.now c.args.target.now c.in-Ok.n _ c.in-Ok.ensures c.write_back.ensures

pub returns-in-Err : goal.returns-in-Err
returns-in-Err c = rw c.from.ensures (promise_when_unfit c.args.form c.args.journal.now c.args.target.now c.in-Err.unfit c.in-Err.ensures)
