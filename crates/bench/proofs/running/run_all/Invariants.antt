use Rattle.bench.proofs.running.run_all.Given as goal

abbrev pub decreases-loop-progress : goal.decreases-loop-progress
decreases-loop-progress g l = l.progress.left
