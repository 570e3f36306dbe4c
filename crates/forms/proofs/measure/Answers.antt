-- Answers.antt - measure: no record read yet; one converted, or none there; the space that is left at the end, or too little.
use Rattle.std.proofs.Common.{◌≡◌, ◌∷◌, [], length, zero-add, arith}
use Rattle.std.proofs.lemmas.Result.{err_from_is_err_and}
use Rattle.forms.specs.declared.Unfit.TheVariants.{NotShaped, TooShort}
use Rattle.forms.specs.Forms.{other, journal_in}
use Rattle.forms.proofs.ConvertLaws.{passed_start, passed_torn, passed_more, passed_end, space_more}
use Rattle.forms.proofs.measure.Goals as goal

pub loop-e-init : goal.loop-e-init
loop-e-init c = ([], passed_start c.args.form c.args.journal.now, zero-add c.args.space)

pub returns-in_err-r : goal.returns-in_err-r
returns-in_err-r c =
    let nothing = rw c.in_err-r.ensures.ok_part at c.convert_record.ensures in
    let torn = passed_torn _ _ _ _ c.loop-e-test.true c.loop-e.invariant.1 nothing in
    let p = err_from_is_err_and c.from_residual.result c.from_residual.ensures.1 in
    let told = rw c.in_err-r.ensures.ok_part at c.in_err-r.ensures.value in
    let why : c.in_err-r.field-0.0 ≡ NotShaped = cc in
    rw (p.1, p.2, why) torn

pub loop-e-preserved : goal.loop-e-preserved
loop-e-preserved c =
    let q = c.loop-e.invariant in
    let there = rw c.in_ok-r.ensures.ok_part at c.convert_record.ensures in
    let acc = journal_in (other c.args.form) q.0 in (
      there.0 ∷ q.0,
      passed_more _ _ _ _ c.loop-e-test.true q.1 there.0 _ there.2 there.1,
      space_more _ _ _ there.0 q.0 _ there.3 (c.less-left.ensures c.args.space (length acc) q.2),
    )

pub returns-in_err-ok_or : goal.returns-in_err-ok_or
returns-in_err-ok_or c =
    let q = c.loop-e.invariant in
    let end : c.loop-e.e ≡ 0 = omega arith in
    let short = rw c.in_err-ok_or.ensures.ok_part at q.2 in
    let p = err_from_is_err_and c.from_residual-in_err-ok_or.result c.from_residual-in_err-ok_or.ensures.1 in
    let told = rw c.in_err-ok_or.ensures.ok_part at c.in_err-ok_or.ensures.value in
    let why : c.in_err-ok_or.field-0.0 ≡ TooShort = cc in
    rw (p.1, p.2, why) (q.0, passed_end _ _ _ _ end q.1, short)

pub returns : goal.returns
returns c =
    let q = c.loop-e.invariant in
    let end : c.loop-e.e ≡ 0 = omega arith in
    let left = rw c.in_ok-ok_or.ensures.ok_part at q.2 in
    (q.0, passed_end _ _ _ _ end q.1, omega (arith, left), omega arith)
