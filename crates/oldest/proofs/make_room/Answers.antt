-- Answers.antt - make_room: the two tests of length, then by what find_cut found; a law for each return.
use Rattle.std.proofs.Common.{◌≡◌, arith, rules}
use Rattle.oldest.specs.Room.{as_it_was}
use Rattle.oldest.proofs.RoomLaws.{room_when_there, room_when_small, room_is, room_torn, room_made}
use Rattle.oldest.proofs.make_room.Goals as goal

pub returns-then-free-ge-LONGEST_RECORD : goal.returns-then-free-ge-LONGEST_RECORD
returns-then-free-ge-LONGEST_RECORD c =
    let same : c.as_it_was.result ≡ (as_it_was 0 c.args.journal.now c.args.mark).a = search rules in
    rw same (room_is _ _ _ _ (room_when_there _ _ _ (omega (arith, c.if-free-ge-LONGEST_RECORD.true))))

pub returns-then-journal-lt-LONGEST_RECORD : goal.returns-then-journal-lt-LONGEST_RECORD
returns-then-journal-lt-LONGEST_RECORD c =
    let same : c.as_it_was-then-journal-lt-LONGEST_RECORD.result ≡ (as_it_was 5 c.args.journal.now c.args.mark).a = search rules in
    rw same (room_is _ _ _ _ (room_when_small _ _ _ c.if-journal-lt-LONGEST_RECORD.true))

pub returns-in_default : goal.returns-in_default
returns-in_default c =
    let same : c.as_it_was-in_default.result ≡ (as_it_was 8 c.args.journal.now c.args.mark).a = search rules in
    rw same (room_torn _ _ _ c.if-free-ge-LONGEST_RECORD.false c.if-journal-lt-LONGEST_RECORD.false _ c.find_cut.ensures c.in_default.is)

pub returns : goal.returns
returns c =
    rw c.move_down.ensures
    (room_made _ _ _ c.if-free-ge-LONGEST_RECORD.false c.if-journal-lt-LONGEST_RECORD.false c.requires _ c.find_cut.ensures _ c.in-Some.is)
