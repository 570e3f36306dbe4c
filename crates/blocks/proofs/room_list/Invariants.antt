use Rattle.std.proofs.Common.{map}
use Rattle.bits.proofs.BitsLaws.{Turns}
use Rattle.bus.specs.Bus.{view_of}
use Rattle.movem.specs.Movem.{room_one}
use Rattle.blocks.proofs.room_list.Given as goal

abbrev pub invariant-loop : goal.invariant-loop
invariant-loop l = Turns (room_one (view_of (map (λ x. x.now) l.mem)) l.w) 16 l.counter l.initial.d l.d
