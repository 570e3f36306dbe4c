-- test: its definition is opened here, since rt takes an attribute with this name for a test.
use Rattle.std.proofs.Common.{rules}
use Rattle.integer.specs.Integer.{test}
use Rattle.integer.proofs.test.Goals as goal

pub returns : goal.returns
unfolding test
returns c = search rules
