-- Answers.antt - restore: the place of an entry is there, and what is left of the log is one entry shorter.
use Rattle.std.proofs.Common.{◌^◌, ◌%◌, List, sym, ap, ◌∙◌, arith, rules}
use Rattle.std.specs.Prelude.{map}
use Rattle.record.specs.Change.{Change, restore}
use Rattle.undo.proofs.JudgeLaws.{turn_low, entry_is, entry_inside, turn_end, put_next}
use Rattle.undo.proofs.restore.Goals as goal

pub bounds-held-e : goal.bounds-held-e
bounds-held-e g c = let h = entry_inside _ _ _ c.loop-e-test.true _ c.requires.places.1 in omega arith

pub offset_bounds-held-e : goal.offset_bounds-held-e
offset_bounds-held-e g c =
    let h = entry_inside _ _ _ c.loop-e-test.true _ c.requires.places.1 in
    let k = c.loop-e.auto.held in
    search rules

pub loop-e-preserved : goal.loop-e-preserved
loop-e-preserved g c = λ value is.
    let low = turn_low _ _ _ c.loop-e-test.true in
    let same = entry_is _ _ _ c.loop-e-test.true in
    let old = is c.loop-e.e-index c.of.result low (rw (← same) c.of.ensures) ∙ ap (λ x. x % 2 ^ 32) (sym same) in
    sym (put_next _ _ _ c.loop-e-test.true value c.loop-e.held c.requires.places.0 _ old) ∙ c.loop-e.invariant value is

pub returns : goal.returns
returns g c = λ value is.
    let end = turn_end _ _ _ c.requires.places.0 c.loop-e-test.false in
    sym (ap (λ (cs : List Change). restore cs (map value c.loop-e.held)) end) ∙ c.loop-e.invariant value is
