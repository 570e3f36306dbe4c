-- The part of the mask that is made, with the part that is left, gives all of it.
use lib.ListN.{length}
use Rattle.record.proofs.MaskLaws.{Masked}
use Rattle.record.proofs.differing.Given as goal

abbrev pub invariant-loop-o : goal.invariant-loop-o
invariant-loop-o l = Masked l.old l.new l.m l.w (length l.yielded)
