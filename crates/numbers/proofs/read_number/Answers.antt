-- Answers.antt - read_number: one group, or two; a longer number by read_groups, since five groups hold 32 bits.
use Rattle.std.proofs.Common.{◌-◌}
use Rattle.numbers.proofs.GroupSteps.{number_none, number_one, number_alone, number_zero, number_two, number_of}
use Rattle.numbers.proofs.read_number.Goals as goal

pub returns-then-end-eq0 : goal.returns-then-end-eq0
returns-then-end-eq0 c = number_none _ _ c.if-end-eq0.true

pub returns-then-b-lt128 : goal.returns-then-b-lt128
returns-then-b-lt128 c = number_one _ _ c.if-end-eq0.false c.requires c.if-b-lt128.true

pub returns-then-e-eq0 : goal.returns-then-e-eq0
returns-then-e-eq0 c = number_alone _ _ c.if-end-eq0.false c.requires c.if-b-lt128.false c.if-e-eq0.true

pub returns-then-c-eq0 : goal.returns-then-c-eq0
returns-then-c-eq0 c = number_zero _ _ c.if-end-eq0.false c.requires c.if-b-lt128.false c.if-e-eq0.false c.if-c-eq0.true

pub returns-then-c-lt128 : goal.returns-then-c-lt128
returns-then-c-lt128 c =
    let byte = (c.type_inv.journal (c.args.end - 1)).fits in
    number_two _ _ c.if-end-eq0.false c.requires c.if-b-lt128.false c.if-e-eq0.false c.if-c-eq0.false c.if-c-lt128.true byte _ c.join_group.ensures

pub returns : goal.returns
returns c = number_of _ _ _ c.read_groups.ensures
