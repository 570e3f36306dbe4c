-- Answers.antt - note_all: a law for each turn and return.
use Rattle.std.proofs.Common.{arith}
use Rattle.starts.proofs.PostLaws.{noting_start, noting_torn, noting_more, noting_end}
use Rattle.starts.proofs.posts.note_all.Goals as goal

pub loop-e-init : goal.loop-e-init
loop-e-init c = noting_start _ _ _ _ (omega (arith, c.ranges, c.requires.mark_in_bounds.0)) c.requires.spread_nonzero.2

pub returns-in_default : goal.returns-in_default
returns-in_default c = noting_torn _ _ _ _ _ c.requires.mark_in_bounds.0 c.loop-e-test.true c.loop-e.invariant c.in_default.ensures

pub loop-e-preserved : goal.loop-e-preserved
loop-e-preserved c =
    let t = c.in-Some.ensures in
    noting_more _ _ _ _ _ c.requires.mark_in_bounds.0 c.loop-e-test.true c.loop-e.invariant (λ k. (c.type_inv.journal k).fits) _ _ _ t.1 t.0 _ _ c.note_post.ensures

pub returns : goal.returns
returns c =
    noting_end _ _ _ _ _ c.requires.mark_in_bounds.0 (λ k. (c.type_inv.journal k).fits) c.loop-e.invariant (omega (arith, c.loop-e-test.false))
