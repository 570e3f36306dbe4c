use Rattle.std.proofs.Common.{map}
use Rattle.bits.proofs.BitsLaws.{Turns}
use Rattle.bus.specs.Bus.{view_of}
use Rattle.movem.specs.Movem.{load_one}
use Rattle.movem.proofs.MovemLaws.{walk}
use Rattle.movem.proofs.load_list.Given as goal

abbrev pub invariant-loop : goal.invariant-loop
invariant-loop l = Turns (load_one (view_of (map (λ x. x.now) l.mem)) l.k l.w) 16 l.counter (walk l.initial.r l.initial.d) (walk l.r l.d)
