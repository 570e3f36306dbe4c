-- RomRows.antt - worked examples of K10: a step by the definition, with a ROM of four bytes, and what it must leave of slots and memory, with its event.
-- The machine is that of WindowRows.antt; the ROM holds MOVE.W #$5678,D0.
-- Held by: window_rows_hold of proofs/WindowLaws.antt.  Source: [003 4.4.9.1], [003 4.4.10], [01 step 6], [01 step 7], [01 step 8], [K10].
use Rattle.std.specs.Prelude.{ℕ, List, [], ◌∷◌, set}
use Rattle.bus.specs.Bus.{Board}
use Rattle.examples.specs.WindowRows.{WindowRow, with_stack, before, shut_out, let_in}

-- a window from lo to below hi, and the ROM  [K10]
abbrev pub stocked : ℕ → ℕ → Board
stocked lo hi = record { window = record { lo = lo; hi = hi }; rom = 0x30 ∷ 0x3C ∷ 0x56 ∷ 0x78 ∷ [] }

-- in user state, through a window up to the ROM's end: the instruction that stands in the ROM  [K10]
abbrev pub from_rom : WindowRow
from_rom =
    record {
      board = stocked 0xF00000 0xF00004;
      slots = set (with_stack 0 0 0x280 0x300 0x0000) 17 0xF00000;
      memory = before [];
      level = 0;
      vector = 0;
      left = record { s = set (with_stack 0x5678 0 0x280 0x300 0x0000) 17 0xF00004; m = before []; event = 0 };
    }

-- in user state: TRAP #0 whose frame would lie in the ROM halts; PC is past it, and nothing else changes  [01 step 8] [K10]
abbrev pub frame_in_rom : WindowRow
frame_in_rom =
    record {
      board = stocked 0x200 0x202;
      slots = with_stack 0 0 0 0xF00004 0x0000;
      memory = before (0x4E40 ∷ []);
      level = 0;
      vector = 0;
      left = record { s = set (set (with_stack 0 0 0 0xF00004 0x0000) 17 0x202) 19 2; m = before (0x4E40 ∷ []); event = 257 };
    }

-- the rows, before others: reads at the ROM's ends and the window's; writes; a read-modify-write reads first; a fetch; a frame  [K10]
abbrev pub rom_rows_and : List WindowRow → List WindowRow
rom_rows_and rows =
    let_in (stocked 0 0) 0 0xF00000 0x2000 (0x3010 ∷ []) 0x303C 0x202 []  -- MOVE.W (A0),D0 in supervisor state: the first word
    ∷ let_in (stocked 0x200 0xF00004) 0 0xF00002 0x0000 (0x3010 ∷ []) 0x5678 0x202 []  -- in user state: the last word
    ∷ shut_out (stocked 0x200 0xF00003) 0 0xF00002 0 (0x3010 ∷ []) 3 (0x11 ∷ 0xF0 ∷ 2 ∷ 0x3010 ∷ 0 ∷ 0 ∷ 0x202 ∷ [])  -- a word that hi cuts
    ∷ let_in (stocked 0x200 0xF00003) 0 0xF00002 0x0000 (0x1010 ∷ []) 0x56 0x202 []  -- MOVE.B (A0),D0: the last byte below hi
    ∷ shut_out (stocked 0x200 0xF00004) 0 0xF00004 0 (0x3010 ∷ []) 3 (0x11 ∷ 0xF0 ∷ 4 ∷ 0x3010 ∷ 0 ∷ 0 ∷ 0x202 ∷ [])  -- past the ROM's end
    ∷ shut_out (stocked 0x200 0xF00004) 0 0xF00001 0 (0x3010 ∷ []) 4 (0x11 ∷ 0xF0 ∷ 1 ∷ 0x3010 ∷ 0 ∷ 0 ∷ 0x202 ∷ [])  -- an odd address
    ∷ shut_out (stocked 0x200 0xF00004) 0 0xF00002 0 (0x2010 ∷ []) 3 (0x11 ∷ 0xF0 ∷ 4 ∷ 0x2010 ∷ 0 ∷ 0 ∷ 0x202 ∷ [])  -- MOVE.L (A0),D0: its second word
    ∷ shut_out (stocked 0x200 0xF00004) 0 0xEFFFFE 0 (0x2010 ∷ []) 3 (0x11 ∷ 0xEF ∷ 0xFFFE ∷ 0x2010 ∷ 0 ∷ 0 ∷ 0x202 ∷ [])  -- below the ROM
    ∷ shut_out (stocked 0x200 0xF00004) 0x4321 0xF00000 0 (0x3080 ∷ []) 3 (0x01 ∷ 0xF0 ∷ 0 ∷ 0x3080 ∷ 0 ∷ 0 ∷ 0x202 ∷ [])  -- MOVE.W D0,(A0): a write
    ∷ shut_out (stocked 0x200 0xF00004) 0x4321 0xF00001 0 (0x3080 ∷ []) 4 (0x01 ∷ 0xF0 ∷ 1 ∷ 0x3080 ∷ 0 ∷ 0 ∷ 0x202 ∷ [])  -- one to an odd address
    ∷ shut_out (stocked 0x200 0xF00004) 0 0xF00000 0 (0x0010 ∷ 0x0001 ∷ []) 3 (0x01 ∷ 0xF0 ∷ 0 ∷ 0x0010 ∷ 0 ∷ 0 ∷ 0x202 ∷ [])  -- ORI.B #1,(A0): its write
    ∷ shut_out (stocked 0x200 0xF00004) 0 0xF00004 0 (0x0010 ∷ 0x0001 ∷ []) 3 (0x11 ∷ 0xF0 ∷ 4 ∷ 0x0010 ∷ 0 ∷ 0 ∷ 0x202 ∷ [])  -- past the end: its read
    ∷ shut_out (stocked 0x200 0xF00004) 0 0x280 0xF00004 (0x4850 ∷ []) 3 (0x01 ∷ 0xF0 ∷ 0 ∷ 0x4850 ∷ 0 ∷ 0 ∷ 0x202 ∷ [])  -- PEA (A0): a stack in ROM
    ∷ shut_out (stocked 0x200 0xF00004) 0 0xF00000 0 (0x4890 ∷ 0x0003 ∷ []) 3 (0x01 ∷ 0xF0 ∷ 0 ∷ 0x4890 ∷ 0 ∷ 0 ∷ 0x202 ∷ [])  -- MOVEM.W to the ROM
    ∷ from_rom
    ∷ frame_in_rom
    ∷ rows
