-- Answers.antt - write_back: no record written yet; one more before those that were; and all.
use Rattle.std.proofs.Common.{◌≡◌, ◌+◌, ◌-◌, ◌≤◌, ◌∷◌, [], ap, sym, ◌∙◌, length, add-zero, arith, length-append}
use Rattle.std.proofs.Math.Seq.{length-take-le}
use Rattle.numbers.specs.Number.{written}
use Rattle.numbers.proofs.WrittenLaws.{written_none}
use Rattle.forms.specs.Forms.{other, record_in, journal_in}
use Rattle.forms.proofs.ConvertLaws.{passed_start, passed_more, passed_torn, passed_end, never_torn, room_below, copied_in, copied, written_all}
use Rattle.forms.proofs.write_back.Goals as goal
use Rattle.forms.proofs.write_back.Goals.{In-Some}

pub loop-e-init : goal.loop-e-init
loop-e-init c = ([], passed_start c.args.form c.args.journal.now, add-zero c.args.total, sym (written_none c.args.target.now c.args.total))

-- the record that was converted has room before those that are written
low : (c : In-Some) → c.in-Some.r.length ≤ c.loop-e.p
low c =
    let q = c.loop-e.invariant in
    let there = c.in-Some.ensures in
    let passed = passed_more _ _ _ _ (omega (arith, there.2)) q.1 there.0 _ there.2 there.1 in
    let byte = c.type_inv.journal in
    let room = room_below _ _ _ (λ k. omega (arith, byte k)) _ _ _ c.requires.1 passed in
    omega (arith, room, c.requires.2, q.2, there.3)

pub overflow_sub-p : goal.overflow_sub-p
overflow_sub-p c = low (goal.at.overflow_sub-p c).In-Some

pub slice_bounds-copy_from_slice-end : goal.slice_bounds-copy_from_slice-end
slice_bounds-copy_from_slice-end c =
    let l = low (goal.at.slice_bounds-copy_from_slice-end c).In-Some in
    omega (arith, l, c.loop-e.invariant.2, c.requires.3)

pub loop-e-preserved : goal.loop-e-preserved
loop-e-preserved c =
    let q = c.loop-e.invariant in
    let there = c.in-Some.ensures in
    let n = c.in-Some.r.length in
    let out = c.convert_record.new.out in
    let at = c.loop-e.p - n in
    let l = low (goal.at.loop-e-preserved c).In-Some in
    let same = c.copy_from_slice.ensures.after in
    let size : length c.copy_from_slice.new.self ≡ at + n - at = omega (arith, ap length same, length-take-le n out there.5) in (
      there.0 ∷ q.0,
      passed_more _ _ _ _ (omega (arith, there.2)) q.1 there.0 _ there.2 there.1,
      omega (arith, l, there.3, q.2, length-append (record_in (other c.args.form) there.0) (journal_in (other c.args.form) q.0)),
      copied_in _ at _ _ size
          ∙ ap (written c.loop-e.target at) same
          ∙ copied _ _ _ _ _ _ _ there.3 there.4 l q.3 (omega (arith, q.2, c.requires.3)),
    )

-- there is a record, since the journal was measured
pub returns-in_default : goal.returns-in_default
returns-in_default c = never_torn _ _ _ c.requires.1 (passed_torn _ _ _ _ c.loop-e-test.true c.loop-e.invariant.1 c.in_default.ensures)

pub returns : goal.returns
returns c =
    let q = c.loop-e.invariant in
    let end : c.loop-e.e ≡ 0 = omega arith in
    written_all _ _ _ _ _ _ _ c.requires.1 (passed_end _ _ _ _ end q.1) (omega (arith, c.requires.2, c.requires.3)) (q.2 ∙ c.requires.2) q.3
