-- Where the last entry is below the place, all are.
use native.Mathlib.Omega.{arith}
use borrow.Author.Tests.{ltb-true}
use Rattle.touch.proofs.RoomLaws.{all_below}
use Rattle.touch.proofs.above.Goals as goal

pub returns : goal.returns
returns c e =
    all_below 0 _ c.args.log.now c.args.n c.args.n c.args.a c.requires.1 (omega arith) (omega arith) c.requires.0 (ltb-true _ _ e)
