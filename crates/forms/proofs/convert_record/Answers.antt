-- Answers.antt - convert_record: the record that was read fits into out in the other form, and stands there.
use Rattle.std.proofs.Common.{◌≤◌, length, arith}
use Rattle.std.proofs.lemmas.Slice.{between_is}
use Rattle.record.specs.Limits.{longest_record_two}
use Rattle.record.specs.Change.{between, changes}
use Rattle.oldest.specs.Room.{Row}
use Rattle.runs.specs.Answers.{BytesPut}
use Rattle.forms.specs.Forms.{other, record_in}
use Rattle.forms.proofs.ConvertLaws.{other_fits, put_taken}
use Rattle.forms.proofs.convert_record.Goals as goal
use Rattle.forms.proofs.convert_record.Goals.{In_ok-r}

-- the record that was read
abbrev row : In_ok-r → Row
row c =
    let r = c.in_ok-r.r in
    record { slots = changes c.read_in.new.slots r.slots; bytes = between r.from r.to c.read_in.new.bytes }

fits : (c : In_ok-r) → length (record_in (other c.args.form) (row c)) ≤ longest_record_two
fits c =
    let byte = c.type_inv.journal in
    other_fits _ _ _ _ _ c.requires.0 (λ k. omega (arith, byte k)) c.in_ok-r.ensures.0

pub put_in-length-requires-clause-room : goal.put_in-length-requires-clause-room
put_in-length-requires-clause-room c =
    let r = c.in_ok-r.r in
    let room = fits (goal.at.put_in-length-requires-clause-room c).In_ok-r in
    rw (c.other.ensures, between_is c.read_in.new.bytes r.from r.to) (omega (arith, room, c.requires.1))

pub returns : goal.returns
returns c =
    let r = c.in_ok-r.r in
    let there = c.in_ok-r.ensures in
    let x = row (goal.at.returns c).In_ok-r in
    let room = fits (goal.at.returns c).In_ok-r in
    let put : BytesPut c.args.out.now 0 (record_in (other c.args.form) x) c.put_in-length.new.out c.put_in-length.result =
    rw (c.other.ensures, between_is c.read_in.new.bytes r.from r.to) at c.put_in-length.ensures in
    let w = put_taken _ _ _ _ put (omega (arith, room, c.requires.1)) in
    (x, there.0, there.1, w.0, w.1, w.2)
