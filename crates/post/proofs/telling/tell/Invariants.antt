use Rattle.post.proofs.telling.tell.Given as goal

abbrev pub decreases-loop-record : goal.decreases-loop-record
decreases-loop-record g l = l.back.end
