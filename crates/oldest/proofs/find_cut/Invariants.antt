-- Invariants.antt - find_cut: what was seen so far of the way back.
use Rattle.oldest.proofs.WayLaws.{Seen}
use Rattle.oldest.proofs.find_cut.Given as goal

abbrev pub invariant-loop-e : goal.invariant-loop-e
invariant-loop-e l = Seen l.len l.journal l.mark l.need l.e l.from l.dropped

abbrev pub decreases-loop-e : goal.decreases-loop-e
decreases-loop-e l = l.e
