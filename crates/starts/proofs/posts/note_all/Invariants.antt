-- Invariants.antt - note_all: every entry is where one of the records that were read starts.
use Rattle.starts.proofs.PostLaws.{Noting}
use Rattle.starts.proofs.posts.note_all.Given as goal

abbrev pub invariant-loop-e : goal.invariant-loop-e
invariant-loop-e l = Noting l.len l.journal l.mark l.e l.posts

abbrev pub decreases-loop-e : goal.decreases-loop-e
decreases-loop-e l = l.e
