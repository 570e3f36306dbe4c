use Rattle.blocks.proofs.StoringLaws.{Storing}
use Rattle.blocks.proofs.store_list.Given as goal

abbrev pub invariant-loop : goal.invariant-loop
invariant-loop l = Storing l.r l.p l.w l.initial.memory l.initial.log l.n l.initial.d l.counter l.memory l.log l.m l.d
