-- Answers.antt - differ: the place of an entry is there; one that its place holds ends the test.
use Rattle.std.proofs.Common.{sym, ap, ◌∙◌, arith}
use Rattle.std.specs.Prelude.{map}
use Rattle.undo.specs.Undo.{differs}
use Rattle.undo.proofs.JudgeLaws.{entry_inside, turn_end, held_not, held_next}
use Rattle.undo.proofs.differ.Goals as goal

pub bounds-held-e : goal.bounds-held-e
bounds-held-e g c = entry_inside _ _ _ c.loop-e-test.true _ c.requires.1

pub offset_bounds-held-e : goal.offset_bounds-held-e
offset_bounds-held-e g c = let h = entry_inside _ _ _ c.loop-e-test.true _ c.requires.1 in omega arith

pub returns-then-e-into : goal.returns-then-e-into
returns-then-e-into g c = λ value is.
    let h = entry_inside _ _ _ c.loop-e-test.true _ c.requires.1 in
    let same = c.if-e-into.true ∙ is _ _ c.into.ensures in
    sym (sym (c.loop-e.invariant value is) ∙ held_not _ _ _ c.loop-e-test.true value _ c.requires.0 _ h c.index-held-e.is same)

pub loop-e-preserved : goal.loop-e-preserved
loop-e-preserved g c = λ value is.
    let h = entry_inside _ _ _ c.loop-e-test.true _ c.requires.1 in
    let same = is _ _ c.into.ensures in
    sym (held_next _ _ _ c.loop-e-test.true value _ c.requires.0 _ h c.index-held-e.is (λ q. c.if-e-into.false (q ∙ sym same)))
    ∙ c.loop-e.invariant value is

pub returns : goal.returns
returns g c = λ value is.
    let end = turn_end _ _ _ c.requires.0 c.loop-e-test.false in
    sym (sym (c.loop-e.invariant value is) ∙ ap (differs (map value c.args.held.now)) end)
