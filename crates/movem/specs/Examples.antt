-- Examples.antt - MOVEM's choices as data: what the definitions give, beside what is meant. The registers are 0 but A0, SR is $2000.
-- Held by: examples_hold of proofs/ExampleLaws.antt.
-- Source: [01 Operands], [01 step 6], [003 B MOVEM], [K6].
use Rattle.std.specs.Prelude.{ℕ, ◌+◌, ◌*◌, List, [], ◌∷◌, nat_lt}
use Rattle.codes.specs.Codes.{A0, NoRegister, BlockUp, BlockDown}
use Rattle.bits.specs.Bits.{bit}
use Rattle.bus.specs.declared.Flow.{Flow}
use Rattle.bus.specs.Bus.{View, all_of}
use Rattle.plan.specs.declared.Plan.{Plan}
use Rattle.plan.specs.Plans.{Done, writing}
use Rattle.movem.specs.Movem.{movem_down, movem_to_registers, block_room, block_put}
use Rattle.movem.specs.Whole.{fits}
use Rattle.movem.specs.Order.{block_words}

-- A0 alone  [ours]
abbrev bank : ℕ → List ℕ
bank a = 0 ∷ 0 ∷ 0 ∷ 0 ∷ 0 ∷ 0 ∷ 0 ∷ 0 ∷ a ∷ 0 ∷ 0 ∷ 0 ∷ 0 ∷ 0 ∷ 0 ∷ 0 ∷ 0 ∷ []

-- an instruction that stands at 0  [ours]
abbrev fresh : Flow
fresh = record { pc = 0; sr = 0x2000; bad = 0 }

-- 4,096 bytes of zeros  [ours]
abbrev zeros : View
zeros = record {
  byte_ok = λ a. nat_lt a 4096;
  word_ok = λ a. nat_lt (a + 1) 4096;
  byte = λ a. 0;
  word = λ a. 0;
  byte_free = λ a. nat_lt a 4096;
  word_free = λ a. nat_lt (a + 1) 4096;
}

-- the fault of a block of longs to -(A0) with A7 and A6, or with none  [ours]
abbrev fault_down : ℕ → ℕ → ℕ
fault_down a list = (block_room zeros (writing (BlockDown + 1) a (list + 65536 * A0) fresh)).bad

-- longs of D0 to A7 upward from an address  [ours]
abbrev all_up : ℕ → Plan
all_up a = writing (BlockUp + 1) a (0xFFFF + 65536 * NoRegister) fresh

-- MOVEM.L A0,-(A0): memory afterwards, and A0  [ours]
abbrev saved : Done
saved = movem_down (bank 8) 0x80 0x48E0 fresh

-- the address times 256, the information word 5 times 4, the vector: both longs outside, both odd: An - 4 first; an empty list is nothing;
-- the words of two longs in their order; 64 bytes that end where memory ends, one further, from an odd start; 64 from
-- the window's first byte, from one before it; A0's first value is stored;
-- (A0)+ ends at the final address  [01 Operands] [01 step 6] [K6] [K7]
abbrev pub movem_examples : List (List ℕ × List ℕ)
movem_examples =
    (fault_down 0x1008 3 ∷ [], (0x1004 * 256 + 5 * 4 + 2) ∷ []) ∷
    (fault_down 0x0801 3 ∷ [], (0x07FD * 256 + 5 * 4 + 3) ∷ []) ∷
    (fault_down 0x0801 0 ∷ [], 0 ∷ []) ∷
    (block_words (writing (BlockDown + 1) 0x1008 (3 + 65536 * A0) fresh), 0x1004 ∷ 0x1006 ∷ 0x1000 ∷ 0x1002 ∷ []) ∷
    (bit (fits 0 4096 (all_up 4032)) ∷ bit (fits 0 4095 (all_up 4032)) ∷ bit (fits 0 4096 (all_up 4031)) ∷ [], 1 ∷ 0 ∷ 0 ∷ []) ∷
    (bit (fits 4032 4096 (all_up 4032)) ∷ bit (fits 4033 4096 (all_up 4032)) ∷ [], 1 ∷ 0 ∷ []) ∷
    (block_put (1 ∷ 2 ∷ 3 ∷ 4 ∷ 5 ∷ 6 ∷ 7 ∷ 8 ∷ []) saved.r saved.p, 1 ∷ 2 ∷ 3 ∷ 4 ∷ 0 ∷ 0 ∷ 0 ∷ 8 ∷ []) ∷
    (saved.r, bank 4) ∷
    ((movem_to_registers (bank 2) (all_of (0x01 ∷ 0x00 ∷ 0x00 ∷ 0x00 ∷ 0x12 ∷ 0x34 ∷ [])) 0x4CD8 fresh).r, bank 6) ∷
    []
