-- ClockRows.antt - worked examples of clocks, one for each kind of rule: a step by the definition, and what Appendix D's line gives.
-- The machine is that of Paper.antt: 1,024 bytes, words from $200 on, PC $200, SSP $400; D0, A0, SR as given; every vector 0.
-- Held by: clock_rows_hold of proofs/ClockLaws.antt; the last row is the largest value.  Source: [003 D-1] to [003 D-14], [K2], [K3].
use Rattle.std.specs.Prelude.{ℕ, ◌+◌, ◌/◌, ◌%◌, List, [], ◌∷◌, set, replicate}
use Rattle.examples.specs.Paper.{slots}

-- words from an address on  [ours]
abbrev pub words_at : List ℕ → ℕ → List ℕ → List ℕ
words_at m a [] = m
words_at m a (w ∷ ws) = words_at (set (set m a (w / 256)) (a + 1) (w % 256)) (a + 2) ws

-- an example: slots, words from $200 on, the request's level, and the clocks that the manual gives  [ours]
pub record Row : Type 0 where
  pub slots : List ℕ
  pub words : List ℕ
  pub level : ℕ
  pub clocks : ℕ

-- 1,024 bytes with the words, and $0001 at $300  [ours]
abbrev pub memory_of : List ℕ → List ℕ
memory_of ws = words_at (words_at (replicate 1024 0) 0x200 ws) 0x300 (0x0001 ∷ [])

-- without a request, D0, A0 and SR as given  [ours]
abbrev pub plain : ℕ → ℕ → ℕ → List ℕ → ℕ → Row
plain d0 a0 sr ws n = record { slots = slots d0 a0 0x200 sr; words = ws; level = 0; clocks = n }

-- the same with another SSP, at which no frame can be written  [ours]
abbrev pub stackless : ℕ → List ℕ → ℕ → Row
stackless sr ws n = record { slots = set (slots 0 0 0x200 sr) 16 0x401; words = ws; level = 0; clocks = n }

-- the rows, in the order of the tables  [003 D-1] [003 D-2] [003 D-3] [003 D-4] [003 D-5] [003 D-6] [003 D-7] [003 D-8] [003 D-9] [003 D-10]
-- [003 D-11] [003 D-12] [003 D-13] [003 D-14] [K2]
abbrev pub clock_rows : List Row
clock_rows =
    plain 0 0x300 0x2000 (0x3090 ∷ []) 12  -- MOVE.W (A0),(A0): 4 and 8  [003 D-2]
    ∷ plain 0 0x300 0x2000 (0x20BC ∷ 0 ∷ 0 ∷ []) 20  -- MOVE.L #0,(A0): 8 and 12  [003 D-3]
    ∷ plain 0 0x300 0x2000 (0xD050 ∷ []) 8  -- ADD.W (A0),D0: 4 + 4  [003 D-4]
    ∷ plain 0 0x300 0x2000 (0xD090 ∷ []) 14  -- ADD.L (A0),D0: 6 + 8  [003 D-4]
    ∷ plain 0 0x300 0x2000 (0xD080 ∷ []) 8  -- ADD.L D0,D0: two stars, 8  [003 D-4]
    ∷ plain 0xFF 0x300 0x2000 (0xC0C0 ∷ []) 54  -- MULU D0,D0 with eight ones: 38 + 16  [003 D-4]
    ∷ plain 0xFF 0x300 0x2000 (0xC1C0 ∷ []) 42  -- MULS D0,D0, whose bits change twice: 38 + 4  [003 D-4]
    ∷ plain 9 0x300 0x2000 (0x80D0 ∷ []) 144  -- DIVU (A0),D0: the maximum, 140 + 4  [003 D-4]
    ∷ plain 0 0x300 0x2000 (0x06A8 ∷ 0 ∷ 0 ∷ 0 ∷ []) 32  -- ADDI.L #0,0(A0): 20 + 12  [003 D-5]
    ∷ plain 0 0 0x2000 (0x4280 ∷ []) 6  -- CLR.L D0  [003 D-6]
    ∷ plain 0 0 0x2000 (0x56C0 ∷ []) 6  -- SNE D0, Z 0: 6 where it holds  [003 D-6]
    ∷ plain 0 0 0x2000 (0xE188 ∷ []) 24  -- LSL.L #8,D0: 8 + 2 * 8  [003 D-7]
    ∷ plain 0 0 0x2000 (0x0180 ∷ []) 10  -- BCLR D0,D0: the maximum  [003 D-8]
    ∷ plain 0 0 0x2000 (0x013C ∷ 0 ∷ []) 8  -- BTST D0,#0: 4 + 4  [003 D-8]
    ∷ plain 0 0 0x2004 (0x6702 ∷ []) 10  -- BEQ taken  [003 D-9]
    ∷ plain 0 0 0x2000 (0x6702 ∷ []) 8  -- BEQ not taken, a byte  [003 D-9]
    ∷ plain 0 0 0x2000 (0x6700 ∷ 2 ∷ []) 12  -- BEQ not taken, a word, though the jump would lead to the same place  [003 D-9]
    ∷ plain 0 0 0x2004 (0x6700 ∷ 2 ∷ []) 10  -- BEQ taken, a word, to the next instruction  [003 D-9]
    ∷ plain 0 0 0x2000 (0x51C8 ∷ 2 ∷ []) 14  -- DBF D0 with 0  [003 D-9]
    ∷ plain 1 0 0x2000 (0x51C8 ∷ 2 ∷ []) 10  -- DBF D0 with 1  [003 D-9]
    ∷ plain 0 0x300 0x2000 (0x4E90 ∷ []) 16  -- JSR (A0)  [003 D-10]
    ∷ plain 0 0x300 0x2000 (0x48E0 ∷ 0xC000 ∷ []) 24  -- MOVEM.L D0/D1,-(A0): 8 + 8 * 2  [003 D-10]
    ∷ plain 0 0x308 0x2000 (0xD188 ∷ []) 30  -- ADDX.L -(A0),-(A0)  [003 D-11]
    ∷ plain 0 0 0x2000 (0x4E70 ∷ []) 132  -- RESET  [003 D-12]
    ∷ plain 0 0x300 0x2000 (0x0148 ∷ 0 ∷ []) 24  -- MOVEP.L 0(A0),D0  [003 D-13]
    ∷ plain 0 0x301 0x2000 (0x3010 ∷ []) 50  -- MOVE.W (A0),D0 at an odd address: the address error alone  [003 D-14]
    ∷ plain 0 0x301 0x2000 (0x4ED0 ∷ []) 50  -- JMP (A0) to an odd address: the address error alone  [003 D-14] [K3]
    ∷ plain 0 0 0x2000 (0xA000 ∷ []) 34  -- 1010, as illegal  [003 D-14] [K2]
    ∷ plain 0 0 0x0000 (0x4E72 ∷ 0 ∷ []) 34  -- STOP in user state: the privilege violation alone  [003 D-14] [K2]
    ∷ plain 2 0x300 0x2000 (0x4190 ∷ []) 48  -- CHK (A0),D0 above its bound: 44 + 4  [003 D-14]
    ∷ plain 2 0x302 0x2000 (0x81D0 ∷ []) 42  -- DIVS (A0),D0 by 0: nothing is added  [003 D-14]
    ∷ plain 0 0 0xA000 (0x4E40 ∷ []) 72  -- TRAP #0, traced: 38 + 34  [003 D-14] [K2]
    ∷ stackless 0x2000 (0x4E40 ∷ []) 0  -- TRAP #0 that halts  [K2]
    ∷ stackless 0xA000 (0x4E71 ∷ []) 4  -- NOP whose trace halts: its own  [K2]
    ∷ record { slots = slots 0 0 0x200 0x2000; words = 0x4E71 ∷ []; level = 7; clocks = 44 }  -- an interrupt  [003 D-14]
    ∷ record { slots = set (slots 0 0 0x200 0x2700) 19 1; words = []; level = 3; clocks = 4 }  -- stopped, the request masked  [K2]
    ∷ plain 9 0 0xA000 (0x81F9 ∷ 0 ∷ 0x0300 ∷ []) 204  -- DIVS $300.L,D0, traced: 158 + 12 + 34, the largest  [003 D-4] [003 D-14] [K2]
    ∷ []
