-- Examples.antt - the choices of data movement as data: what the definitions give, beside what is meant. The registers are 0 but one.
-- Held by: examples_hold of proofs/ExampleLaws.antt.
-- Source: [01 Operands], [003 B MOVE LINK UNLK].
use Rattle.std.specs.Prelude.{ℕ, List, [], ◌∷◌}
use Rattle.bus.specs.declared.Flow.{Flow}
use Rattle.bus.specs.Bus.{all_of}
use Rattle.plan.specs.Plans.{Done}
use Rattle.movement.specs.Movement.{move_data, link, unlink}

-- A0 and A7 alone  [ours]
abbrev bank : ℕ → ℕ → List ℕ
bank a s = 0 ∷ 0 ∷ 0 ∷ 0 ∷ 0 ∷ 0 ∷ 0 ∷ 0 ∷ a ∷ 0 ∷ 0 ∷ 0 ∷ 0 ∷ 0 ∷ 0 ∷ s ∷ 0 ∷ []

-- an instruction whose extension words stand at 0  [ours]
abbrev fresh : Flow
fresh = record { pc = 0; sr = 0; bad = 0 }

-- what is written, and where  [ours]
abbrev write_of : Done → List ℕ
write_of d = d.p.at ∷ d.p.value ∷ []

-- LINK A7,#-8 with A7 $100  [ours]
abbrev linked : Done
linked = link (bank 0 0x100) (all_of (0xFF ∷ 0xF8 ∷ [])) 0x4E57 fresh

-- LINK A7,#-8 stores A7 lowered by 4; UNLK A7 leaves the long that it read; MOVE.L A0,-(A0) stores A0's first value  [01 Operands]
abbrev pub movement_examples : List (List ℕ × List ℕ)
movement_examples =
    (write_of linked, 0xFC ∷ 0xFC ∷ []) ∷ (linked.r, bank 0 0xF4) ∷
    ((unlink (bank 0 2) (all_of (0 ∷ 0 ∷ 0 ∷ 0 ∷ 0x12 ∷ 0x34 ∷ [])) 0x4E5F fresh).r, bank 0 0x1234) ∷
    (write_of (move_data (bank 8 0) (all_of []) 0x2108 fresh), 4 ∷ 8 ∷ []) ∷
    []
