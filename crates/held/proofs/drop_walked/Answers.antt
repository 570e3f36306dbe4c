-- make_room of oldest on the journal turned back.
use Rattle.held.proofs.HeldLaws.{walked_low, walked_done, room_of_turned}
use Rattle.held.proofs.drop_walked.Goals as goal

pub overflow_sub-result : goal.overflow_sub-result
overflow_sub-result c =
    let a = c.args in
    let m = c.requires.mark_in_bounds in
    let s = c.requires.mark_len_bound in
    let r = c.make_room-room in
    let room = room_of_turned _ a.b a.h _ a.journal.now _ _ _ c.turn_back.ensures r.ensures in
    walked_low _ _ _ _ _ m.1 m.2 m.0 s.0 s.1 m.3 _ _ _ _ s.2 _ _ room

pub returns : goal.returns
returns c =
    let a = c.args in
    let m = c.requires.mark_in_bounds in
    let s = c.requires.mark_len_bound in
    let r = c.make_room-room in
    let room = room_of_turned _ a.b a.h _ a.journal.now _ _ _ c.turn_back.ensures r.ensures in
    walked_done _ _ _ _ _ m.1 m.2 m.0 s.0 s.1 m.3 _ _ _ _ s.2 _ _ room _
