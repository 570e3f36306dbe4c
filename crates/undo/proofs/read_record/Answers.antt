-- Answers.antt - read_record: the two counts and the two runs; a law for each return.
use Rattle.std.proofs.Common.{arith}
use Rattle.undo.proofs.ReadLaws.{record_bad, record_many, record_bad_2, record_many_2, record_broken, record_broken_2, record_found}
use Rattle.undo.proofs.read_record.Goals as goal

pub returns-in_err-nb : goal.returns-in_err-nb
returns-in_err-nb c = rw c.from_residual.ensures (record_bad _ _ c.in_err-nb.ensures)

pub returns-then-nb-gt-BYTE_LIMIT : goal.returns-then-nb-gt-BYTE_LIMIT
returns-then-nb-gt-BYTE_LIMIT c = record_many _ _ _ _ c.in_ok-nb.ensures.0 c.if-nb-gt-BYTE_LIMIT.true

pub returns-in_err-ns : goal.returns-in_err-ns
returns-in_err-ns c =
    let few = c.if-nb-gt-BYTE_LIMIT.false in
    rw c.from_residual-in_err-ns.ensures (record_bad_2 _ _ _ _ c.in_ok-nb.ensures.0 few c.in_err-ns.ensures)

pub returns-then-ns-gt-SLOT_LIMIT : goal.returns-then-ns-gt-SLOT_LIMIT
returns-then-ns-gt-SLOT_LIMIT c =
    record_many_2 _ _ _ _ c.in_ok-nb.ensures.0 c.if-nb-gt-BYTE_LIMIT.false _ _ c.in_ok-ns.ensures.0 c.if-ns-gt-SLOT_LIMIT.true

pub returns-in_err-e3 : goal.returns-in_err-e3
returns-in_err-e3 c =
    rw c.from_residual-in_err-e3.ensures
    (record_broken _ _ _ _ c.in_ok-nb.ensures.0 c.if-nb-gt-BYTE_LIMIT.false _ _ c.in_ok-ns.ensures.0 c.if-ns-gt-SLOT_LIMIT.false c.in_err-e3.ensures)

pub returns-in_err-start : goal.returns-in_err-start
returns-in_err-start c =
    rw c.from_residual-in_err-start.ensures
    (record_broken_2 _ _ _ _ c.in_ok-nb.ensures.0 c.if-nb-gt-BYTE_LIMIT.false _ _ c.in_ok-ns.ensures.0 c.if-ns-gt-SLOT_LIMIT.false
    _ _ c.in_ok-e3.ensures.0 c.in_err-start.ensures)

pub returns : goal.returns
returns c =
    let few = c.if-nb-gt-BYTE_LIMIT.false in
    let few₂ = c.if-ns-gt-SLOT_LIMIT.false in
    let bytes = c.in_ok-e3.ensures in
    let slots = c.in_ok-start.ensures in (
      record_found _ _ _ _ c.in_ok-nb.ensures.0 few _ _ c.in_ok-ns.ensures.0 few₂ _ _ bytes.0 _ _ slots.0,
      omega (arith, c.in_ok-nb.ensures.1, c.in_ok-ns.ensures.1, bytes.1, slots.1),
      few₂,
      few,
      slots.2,
      bytes.2,
    )
