use Rattle.touch.proofs.RoomLaws.{room_of_copy}
use Rattle.touch.proofs.make_room.Goals as goal

pub returns : goal.returns
returns c =
    room_of_copy c.args.log.now c.args.n c.args.i c.args.p c.requires.0 c.requires.1 _ c.copy_within.ensures.after
