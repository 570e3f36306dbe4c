use Rattle.turned.proofs.TurnLaws.{drop_turned_done}
use Rattle.turned.proofs.drop_turned.Goals as goal

pub returns : goal.returns
returns c =
    drop_turned_done _ _ _ _ _ _ _ c.requires.0 c.requires.1 c.requires.2 c.move_to.ensures c.move_to-2.ensures
