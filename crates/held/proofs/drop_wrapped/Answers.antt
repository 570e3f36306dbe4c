-- By its three moves.
use Rattle.starts.proofs.WrapLaws.{wrapped_done}
use Rattle.held.proofs.drop_wrapped.Goals as goal

pub returns : goal.returns
returns c =
    let q = c.requires in
    wrapped_done _ _ _ _ _ _ _ _ q.0 q.1 q.2 q.3 q.4 c.move_to.ensures c.move_to-2.ensures c.move_to-3.ensures
