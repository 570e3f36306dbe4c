use Rattle.shift.specs.Shift.{one_place}
use Rattle.bits.proofs.BitsLaws.{Turns}
use Rattle.shift.proofs.places.Given as goal

abbrev pub invariant-loop : goal.invariant-loop
invariant-loop l = Turns (one_place l.k l.left l.z) l.n l.counter l.fn.t l.m
