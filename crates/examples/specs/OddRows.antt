-- OddRows.antt - worked examples of K3: a step by the definition, and what it must leave of slots and memory, with its event.
-- The machine is that of Paper.antt: 1,024 bytes, words from $200 on, PC $200; SSP is $300, where words for RTS, RTR and RTE lie; every vector 0.
-- Held by: odd_rows_hold of proofs/OddLaws.antt.  Source: [003 4.4.9.1], [003 4.4.10], [01 step 7], [01 step 8], [K3].
use Rattle.std.specs.Prelude.{ℕ, List, [], ◌∷◌, set, replicate}
use Rattle.exception.specs.Exceptions.{Stepped}
use Rattle.examples.specs.Paper.{slots}
use Rattle.examples.specs.ClockRows.{words_at}

-- an example: slots and memory, the request's level and vector, and what the step leaves  [ours]
pub record OddRow : Type 0 where
  pub slots : List ℕ
  pub memory : List ℕ
  pub level : ℕ
  pub vector : ℕ
  pub left : Stepped

-- D0, A0, SSP and SR as given  [ours]
abbrev pub start : ℕ → ℕ → ℕ → ℕ → List ℕ
start d0 a0 ssp sr = set (slots d0 a0 0x200 sr) 16 ssp

-- 1,024 bytes: words at $200, and at an address  [ours]
abbrev pub memory : List ℕ → ℕ → List ℕ → List ℕ
memory ws a xs = words_at (words_at (replicate 1024 0) 0x200 ws) a xs

-- the address error is taken: D0 and SR then, the frame's seven words below SSP, PC 0 by vector 3; all else stays  [K3]
abbrev pub blamed : ℕ → ℕ → ℕ → List ℕ → List ℕ → ℕ → ℕ → List ℕ → OddRow
blamed d0 a0 sr ws stack d after frame =
    record {
      slots = start d0 a0 0x300 sr;
      memory = memory ws 0x300 stack;
      level = 0;
      vector = 0;
      left = record { s = set (set (start d a0 0x2F2 sr) 17 0) 18 after; m = words_at (memory ws 0x300 stack) 0x2F2 frame; event = 4 };
    }

-- no exception: D0 and PC as given  [ours]
abbrev pub goes_on : ℕ → ℕ → ℕ → List ℕ → ℕ → ℕ → OddRow
goes_on d0 a0 sr ws d pc =
    record {
      slots = start d0 a0 0x300 sr;
      memory = memory ws 0x300 [];
      level = 0;
      vector = 0;
      left = record { s = set (set (start d0 a0 0x300 sr) 0 d) 17 pc; m = memory ws 0x300 []; event = 0 };
    }

-- the machine halts, and nothing else changes: JMP (A0), SSP as given, a word at an address  [01 step 8] [K3]
abbrev pub halting : ℕ → ℕ → ℕ → ℕ → ℕ → ℕ → OddRow
halting a0 ssp a w level vector =
    record {
      slots = start 0 a0 ssp 0x2000;
      memory = memory (0x4ED0 ∷ []) a (w ∷ []);
      level = level;
      vector = vector;
      left = record { s = set (start 0 a0 ssp 0x2000) 19 2; m = memory (0x4ED0 ∷ []) a (w ∷ []); event = 257 };
    }

-- the rows: the nine jumps; jumps that are not made, or lead to an even address; odd handlers  [003 4.4.10] [01 step 8] [K3]
abbrev pub odd_rows : List OddRow
odd_rows =
    blamed 0 0 0x2004 (0x6701 ∷ []) [] 0 0x2004 (0x16 ∷ 0 ∷ 0x203 ∷ 0x6701 ∷ 0x2004 ∷ 0 ∷ 0x202 ∷ [])  -- BEQ
    ∷ blamed 0 0 0x0004 (0x6701 ∷ []) [] 0 0x2004 (0x12 ∷ 0 ∷ 0x203 ∷ 0x6701 ∷ 0x0004 ∷ 0 ∷ 0x202 ∷ [])  -- BEQ in user state
    ∷ blamed 0 0 0xA004 (0x6701 ∷ []) [] 0 0x2004 (0x16 ∷ 0 ∷ 0x203 ∷ 0x6701 ∷ 0xA004 ∷ 0 ∷ 0x202 ∷ [])  -- BEQ with T 1: no trace
    ∷ blamed 0 0 0x2000 (0x60FF ∷ []) [] 0 0x2000 (0x16 ∷ 0 ∷ 0x201 ∷ 0x60FF ∷ 0x2000 ∷ 0 ∷ 0x202 ∷ [])  -- BRA
    ∷ blamed 0 0 0x2000 (0x6103 ∷ []) [] 0 0x2000 (0x16 ∷ 0 ∷ 0x205 ∷ 0x6103 ∷ 0x2000 ∷ 0 ∷ 0x202 ∷ [])  -- BSR
    ∷ blamed 5 0 0x2000 (0x51C8 ∷ 0x0001 ∷ []) [] 5 0x2000 (0x16 ∷ 0 ∷ 0x203 ∷ 0x51C8 ∷ 0x2000 ∷ 0 ∷ 0x202 ∷ [])  -- DBF: D0 keeps 5
    ∷ blamed 0 0x301 0x2000 (0x4ED0 ∷ []) [] 0 0x2000 (0x16 ∷ 0 ∷ 0x301 ∷ 0x4ED0 ∷ 0x2000 ∷ 0 ∷ 0x202 ∷ [])  -- JMP (A0)
    ∷ blamed 0 0xFF123457 0x2000 (0x4E90 ∷ []) [] 0 0x2000 (0x16 ∷ 0x12 ∷ 0x3457 ∷ 0x4E90 ∷ 0x2000 ∷ 0 ∷ 0x202 ∷ [])  -- JSR (A0): 24 bits
    ∷ blamed 0 0x301 0x0000 (0x4E90 ∷ []) [] 0 0x2000 (0x12 ∷ 0 ∷ 0x301 ∷ 0x4E90 ∷ 0x0000 ∷ 0 ∷ 0x202 ∷ [])  -- JSR (A0) whose push would fail: USP is 0
    ∷ blamed 0 0 0x2000 (0x4E75 ∷ []) (0 ∷ 0x301 ∷ []) 0 0x2000 (0x16 ∷ 0 ∷ 0x301 ∷ 0x4E75 ∷ 0x2000 ∷ 0 ∷ 0x202 ∷ [])  -- RTS
    ∷ blamed 0 0 0x2000 (0x4E77 ∷ []) (0x1F ∷ 0 ∷ 0x301 ∷ []) 0 0x2000 (0x16 ∷ 0 ∷ 0x301 ∷ 0x4E77 ∷ 0x2000 ∷ 0 ∷ 0x202 ∷ [])  -- RTR
    ∷ blamed 0 0 0x2000 (0x4E73 ∷ []) (0 ∷ 0 ∷ 0x301 ∷ []) 0 0x2000 (0x16 ∷ 0 ∷ 0x301 ∷ 0x4E73 ∷ 0x2000 ∷ 0 ∷ 0x202 ∷ [])  -- RTE to user state
    ∷ goes_on 0 0 0x2000 (0x6701 ∷ []) 0 0x202  -- BEQ that is not made
    ∷ goes_on 0 0 0x2000 (0x51C8 ∷ 0x0001 ∷ []) 0xFFFF 0x204  -- DBF with 0, whose jump is not made
    ∷ goes_on 0 0xF00000 0x2000 (0x4ED0 ∷ []) 0 0xF00000  -- JMP (A0) to an even address outside memory
    ∷ halting 0x301 0x300 0x0E 0x0001 0 0  -- JMP (A0), vector 3 odd
    ∷ halting 0x10301 0x1A 0x0E 0x0000 0 0  -- JMP (A0), its frame over vector 3, which is then $00160001
    ∷ halting 0 0x300 0x0A 0x0001 7 2  -- an interrupt that names vector 2, which is odd
    ∷ record {
      slots = start 0 0x20301 0x1A 0x2000;
      memory = memory (0x4ED0 ∷ []) 0x0E (0x0001 ∷ []);
      level = 0;
      vector = 0;
      left = record {
        s = set (start 0 0x20301 0x0C 0x2000) 17 0x160002;
        m = words_at (memory (0x4ED0 ∷ []) 0x0E []) 0x0C (0x16 ∷ 0x02 ∷ 0x0301 ∷ 0x4ED0 ∷ 0x2000 ∷ 0 ∷ 0x202 ∷ []);
        event = 4;
      };
    }  -- JMP (A0), its frame over vector 3, which was odd and is then $00160002
    ∷ record {
      slots = start 0 0 0x300 0x2000;
      memory = memory (0x4ED0 ∷ []) 0x12 (0x0001 ∷ []);
      level = 7;
      vector = 4;
      left = record {
        s = set (set (start 0 0 0x2FA 0x2000) 17 1) 18 0x2700;
        m = words_at (memory (0x4ED0 ∷ []) 0x12 (0x0001 ∷ [])) 0x2FA (0x2000 ∷ 0 ∷ 0x200 ∷ []);
        event = 5;
      };
    }  -- an interrupt that names vector 4, which is odd: it is gone to
    ∷ []
