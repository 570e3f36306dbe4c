-- From the post, where one is known.
use native.Mathlib.Omega.{arith}
use lib.ListN.{length}
use Rattle.turned.specs.Turned.{turned}
use Rattle.starts.proofs.NearLaws.{fill_from}
use Rattle.starts.proofs.near.refill.Goals as goal

pub fill_near-requires-clause-near_nonzero : goal.fill_near-requires-clause-near_nonzero
fill_near-requires-clause-near_nonzero c =
    let a = c.args in (
      c.requires.spread_nonzero.2,
      fill_from a.len (turned a.b a.h a.journal.now) a.mark a.posts.now a.near.now (length a.near.now) a.base c.requires.spread_nonzero.3 c.requires.mark_in_bounds.4 c.post_after-post.result c.post_after-post.ensures (omega arith) c.if-base-mark.false,
    )
