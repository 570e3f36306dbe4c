use Rattle.blocks.proofs.WholeLaws.{Whole}
use Rattle.blocks.proofs.whole.store_values.Given as goal

abbrev pub invariant-loop-d : goal.invariant-loop-d
invariant-loop-d l = Whole l.t l.w l.initial.memory l.initial.log l.n l.initial.d l.memory l.log l.m l.d

abbrev pub decreases-loop-d : goal.decreases-loop-d
decreases-loop-d l = l.d.list
