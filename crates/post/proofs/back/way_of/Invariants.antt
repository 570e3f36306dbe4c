use Rattle.post.proofs.back.way_of.Given as goal

abbrev pub decreases-loop-records : goal.decreases-loop-records
decreases-loop-records l = l.back.end
