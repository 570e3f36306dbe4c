use Rattle.turned.proofs.TurnLaws.{turn_back_done}
use Rattle.turned.proofs.turn_back.Goals as goal

pub returns : goal.returns
returns c =
    turn_back_done _ _ _ _ _ _ c.requires.0 c.requires.1 c.reverse_part.ensures c.reverse_part-2.ensures c.reverse_part-3.ensures
