-- Answers.antt - read_groups: the last byte, then the recursion on what stands before it; one law per return.
use Rattle.std.proofs.Common.{◌-◌, ap, ◌∙◌, arith}
use Rattle.numbers.specs.Number.{read_groups}
use Rattle.numbers.proofs.GroupSteps.{back_of_pred, top_16, top_128, top_32, read_16, read_over, read_128}
use Rattle.numbers.proofs.GroupSteps.{groups_none, read_bad, read_zero, read_bound, read_more}
use Rattle.numbers.proofs.+read_groups.Goals as goal

pub returns-then-end-eq0 : goal.returns-then-end-eq0
returns-then-end-eq0 t c = groups_none _ _ _ c.if-end-eq0.true

pub returns-then-b-lt16 : goal.returns-then-b-lt16
returns-then-b-lt16 t c =
    let k = c.args.k in
    let at_e = back_of_pred _ _ c.if-end-eq0.false c.requires.0 in
    (ap (read_groups k) at_e ∙ read_16 k _ _ c.if-b-lt16.true, omega arith, omega (arith, top_16 k))

pub returns-then-k-eq0 : goal.returns-then-k-eq0
returns-then-k-eq0 t c =
    let k = c.args.k in
    let at_e = back_of_pred _ _ c.if-end-eq0.false c.requires.0 in
    ap (read_groups k) at_e ∙ read_over k _ _ c.if-k-eq0.true c.if-b-lt16.false

pub returns-then-b-lt128 : goal.returns-then-b-lt128
returns-then-b-lt128 t c =
    let k = c.args.k in
    let at_e = back_of_pred _ _ c.if-end-eq0.false c.requires.0 in
    let more = c.if-k-eq0.false in
    (ap (read_groups k) at_e ∙ read_128 k _ _ more c.if-b-lt128.true, omega arith, omega (arith, top_128 k more, top_16 (k - 1)))

pub returns-in_err-hi : goal.returns-in_err-hi
returns-in_err-hi t c =
    rw c.from_residual.ensures
    (read_bad _ _ _ c.if-end-eq0.false c.requires.0 c.if-k-eq0.false c.if-b-lt128.false _ c.read_groups.ensures c.in_err-hi.was)

pub returns-then-hi-eq0 : goal.returns-then-hi-eq0
returns-then-hi-eq0 t c =
    let h = c.in_ok-hi in
    read_zero _ _ _ c.if-end-eq0.false c.requires.0 c.if-k-eq0.false c.if-b-lt128.false _ c.read_groups.ensures _ _ h.was c.if-hi-eq0.true

pub join_group-requires : goal.join_group-requires
join_group-requires t c =
    let h = c.in_ok-hi in
    let k = c.args.k in
    let byte = (c.type_inv.journal (c.args.end - 1)).fits in
    let less = read_bound _ _ k c.if-end-eq0.false c.requires.0 c.if-k-eq0.false c.if-b-lt128.false _ c.read_groups.ensures _ _ h.was byte in
    (omega (arith, less, top_32 k c.requires.1), c.if-b-lt128.false)

pub returns : goal.returns
returns t c =
    let h = c.in_ok-hi in
    let byte = (c.type_inv.journal (c.args.end - 1)).fits in
    read_more _ _ _ c.if-end-eq0.false c.requires.0 c.if-k-eq0.false c.if-b-lt128.false _ c.read_groups.ensures _ _ h.was
    c.if-hi-eq0.false byte _ c.join_group.ensures
