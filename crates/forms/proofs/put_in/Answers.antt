-- Answers.antt - put_in: the four parts, one after the other.
use Rattle.std.proofs.Common.{◌≤◌, List, ℕ, map, length, arith}
use Rattle.numbers.specs.Number.{number_bytes}
use Rattle.record.specs.Change.{Change, unpack, changes_bytes}
use Rattle.runs.proofs.PutLaws.{FourFit, room_1, room_2, room_3, room_4, all_put}
use Rattle.forms.specs.declared.Form.{Form}
use Rattle.forms.specs.Forms.{record_in}
use Rattle.forms.specs.Answers.{part_bytes, part_count}
use Rattle.forms.proofs.RecordLaws.{parts_of_record}
use Rattle.forms.proofs.put_in.Goals as goal

parts_fit : (form : Form) (out : List ℕ) (ss bs : List Change) → length (record_in form (record { slots = ss; bytes = bs })) ≤ length out
    → FourFit out 0 (changes_bytes ss) (part_bytes form bs) (number_bytes (length ss)) (number_bytes (part_count form bs))
parts_fit form out ss bs h = let split = rw (parts_of_record form ss bs) at h in record { room = omega (arith, split) }

pub put_changes-a-requires : goal.put_changes-a-requires
put_changes-a-requires c = (omega (arith, c.requires.few.0), room_1 _ _ _ _ _ _ (parts_fit _ _ _ _ c.requires.room))

pub put_part-b-requires : goal.put_part-b-requires
put_part-b-requires c = (c.requires.few.1, room_2 _ _ _ _ _ _ (parts_fit _ _ _ _ c.requires.room) _ _ c.put_changes-a.ensures.bytes)

pub put_number-p-requires : goal.put_number-p-requires
put_number-p-requires c =
    let fit = parts_fit _ _ _ _ c.requires.room in
    let x = c.put_changes-a.ensures in
    rw x.count (room_3 _ _ _ _ _ _ fit _ _ x.bytes _ _ c.put_part-b.ensures.bytes)

pub put_number-requires : goal.put_number-requires
put_number-requires c =
    let fit = parts_fit _ _ _ _ c.requires.room in
    let x = c.put_changes-a.ensures in
    let y = c.put_part-b.ensures in
    let z = c.put_number-p in
    rw y.count (room_4 _ _ _ _ _ _ fit _ _ x.bytes _ _ y.bytes
    z.result z.new.journal (record { place = rw (← x.count) z.ensures.next; bytes = rw (← x.count) z.ensures.bytes }))

pub returns : goal.returns
returns c =
    let fit = parts_fit _ _ _ _ c.requires.room in
    let x = c.put_changes-a.ensures in
    let y = c.put_part-b.ensures in
    let z = c.put_number-p in
    let w = c.put_number in
    rw (parts_of_record c.args.form (map unpack c.args.slots.now) (map unpack c.args.bytes.now))
    (all_put _ _ _ _ _ _ fit _ _ x.bytes _ _ y.bytes
    z.result z.new.journal (record { place = rw (← x.count) z.ensures.next; bytes = rw (← x.count) z.ensures.bytes })
    w.result w.new.journal (record { place = rw (← y.count) w.ensures.next; bytes = rw (← y.count) w.ensures.bytes }))
