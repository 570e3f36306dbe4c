-- WindowRows.antt - worked examples of K7: a step by the definition, through a window, and what it must leave of slots and memory, with its event.
-- The machine is that of OddRows.antt: 1,024 bytes, words from $200 on, PC $200, SSP $300; $1234 and $5678 at $280; every vector 0.
-- Held by: window_rows_hold of proofs/WindowLaws.antt.  Source: [003 4.4.9.1], [003 4.4.10], [01 step 6], [01 step 7], [K7].
use Rattle.std.specs.Prelude.{ℕ, List, [], ◌∷◌, set}
use Rattle.bus.specs.Bus.{Board}
use Rattle.exception.specs.Exceptions.{Stepped}
use Rattle.examples.specs.ClockRows.{words_at}
use Rattle.examples.specs.OddRows.{start, memory}

-- an example: the board, slots and memory, the request's level and vector, and what the step leaves  [ours]
pub record WindowRow : Type 0 where
  pub board : Board
  pub slots : List ℕ
  pub memory : List ℕ
  pub level : ℕ
  pub vector : ℕ
  pub left : Stepped

-- a window by its ends: from lo to below hi; and no ROM  [K7]
abbrev pub opened : ℕ → ℕ → Board
opened lo hi = record { window = record { lo = lo; hi = hi }; rom = [] }

-- D0, A0, USP, SSP and SR as given  [ours]
abbrev pub with_stack : ℕ → ℕ → ℕ → ℕ → ℕ → List ℕ
with_stack d0 a0 usp ssp sr = set (start d0 a0 ssp sr) 15 usp

-- words at $200, $1234 and $5678 at $280  [ours]
abbrev pub before : List ℕ → List ℕ
before ws = memory ws 0x280 (0x1234 ∷ 0x5678 ∷ [])

-- in user state, with D0, A0 and USP: the fault of this event is taken, its frame of seven words outside the window; all else stays  [K7]
abbrev pub shut_out : Board → ℕ → ℕ → ℕ → List ℕ → ℕ → List ℕ → WindowRow
shut_out board d0 a0 usp ws event frame =
    record {
      board = board;
      slots = with_stack d0 a0 usp 0x300 0x0000;
      memory = before ws;
      level = 0;
      vector = 0;
      left = record {
        s = set (with_stack d0 a0 usp 0x2F2 0x2000) 17 0;
        m = words_at (before ws) 0x2F2 frame;
        event = event;
      };
    }

-- with D0, A0 and SR: no exception; D0, PC and the words from $280 on as given  [K7]
abbrev pub let_in : Board → ℕ → ℕ → ℕ → List ℕ → ℕ → ℕ → List ℕ → WindowRow
let_in board d0 a0 sr ws d pc after =
    record {
      board = board;
      slots = with_stack d0 a0 0x280 0x300 sr;
      memory = before ws;
      level = 0;
      vector = 0;
      left = record { s = set (with_stack d a0 0x280 0x300 sr) 17 pc; m = words_at (before ws) 0x280 after; event = 0 };
    }

-- in user state, over one word: an exception that is no fault is taken, by this request; SR then, and the frame of three words outside the
-- window  [K7]
abbrev pub taken : Board → ℕ → ℕ → ℕ → ℕ → ℕ → List ℕ → WindowRow
taken board w level vector event sr frame =
    record {
      board = board;
      slots = with_stack 0 0 0 0x300 0x0000;
      memory = before (w ∷ []);
      level = level;
      vector = vector;
      left = record {
        s = set (with_stack 0 0 0 0x2FA sr) 17 0;
        m = words_at (before (w ∷ [])) 0x2FA frame;
        event = event;
      };
    }

-- the rows: operands at the window's ends, in user state; fetches; writes and stack; supervisor state; jumps; exceptions  [K7]
abbrev pub window_rows : List WindowRow
window_rows =
    shut_out (opened 0x200 0x281) 0 0x280 0 (0x3010 ∷ []) 3 (0x11 ∷ 0 ∷ 0x280 ∷ 0x3010 ∷ 0 ∷ 0 ∷ 0x202 ∷ [])  -- MOVE.W (A0),D0: a word that hi cuts
    ∷ let_in (opened 0x200 0x282) 0 0x280 0x0000 (0x3010 ∷ []) 0x1234 0x202 []  -- the last word below hi
    ∷ let_in (opened 0x200 0x281) 0 0x280 0x0000 (0x1010 ∷ []) 0x12 0x202 []  -- MOVE.B (A0),D0: the last byte below hi
    ∷ shut_out (opened 0x200 0x281) 0 0x281 0 (0x1010 ∷ []) 3 (0x11 ∷ 0 ∷ 0x281 ∷ 0x1010 ∷ 0 ∷ 0 ∷ 0x202 ∷ [])  -- the byte at hi
    ∷ shut_out (opened 0x200 0x281) 0 0x281 0 (0x3010 ∷ []) 4 (0x11 ∷ 0 ∷ 0x281 ∷ 0x3010 ∷ 0 ∷ 0 ∷ 0x202 ∷ [])  -- MOVE.W there: it is odd
    ∷ shut_out (opened 0x200 0x281) 0 0x1FF 0 (0x1010 ∷ []) 3 (0x11 ∷ 0 ∷ 0x1FF ∷ 0x1010 ∷ 0 ∷ 0 ∷ 0x202 ∷ [])  -- MOVE.B below lo
    ∷ shut_out (opened 0x1FF 0x281) 0 0x1FE 0 (0x3010 ∷ []) 3 (0x11 ∷ 0 ∷ 0x1FE ∷ 0x3010 ∷ 0 ∷ 0 ∷ 0x202 ∷ [])  -- MOVE.W: a word that lo cuts
    ∷ let_in (opened 0x1FF 0x400) 0 0x1FF 0x0004 (0x1010 ∷ []) 0 0x202 []  -- MOVE.B at lo, a byte 0
    ∷ shut_out (opened 0x200 0x282) 0 0x280 0 (0x2010 ∷ []) 3 (0x11 ∷ 0 ∷ 0x282 ∷ 0x2010 ∷ 0 ∷ 0 ∷ 0x202 ∷ [])  -- MOVE.L (A0),D0: its second word
    ∷ shut_out (opened 0x202 0x400) 0 0x280 0 (0x3010 ∷ []) 3 (0x12 ∷ 0 ∷ 0x200 ∷ 0 ∷ 0 ∷ 0 ∷ 0x202 ∷ [])  -- a fetch below lo: no operation word
    ∷ shut_out (opened 0x200 0x201) 0 0x280 0 (0x3010 ∷ []) 3 (0x12 ∷ 0 ∷ 0x200 ∷ 0 ∷ 0 ∷ 0 ∷ 0x202 ∷ [])  -- a fetch that hi cuts
    ∷ shut_out (opened 0 0) 0 0x280 0 (0x3010 ∷ []) 3 (0x12 ∷ 0 ∷ 0x200 ∷ 0 ∷ 0 ∷ 0 ∷ 0x202 ∷ [])  -- a window with nothing in it
    ∷ shut_out (opened 0x200 0x202) 0 0 0 (0x303C ∷ 0x1234 ∷ []) 3 (0x12 ∷ 0 ∷ 0x202 ∷ 0x303C ∷ 0 ∷ 0 ∷ 0x202 ∷ [])  -- MOVE.W #,D0: its second word
    ∷ let_in (opened 0x200 0x282) 0x4321 0x280 0x0000 (0x3080 ∷ []) 0x4321 0x202 (0x4321 ∷ [])  -- MOVE.W D0,(A0): the last word below hi
    ∷ shut_out (opened 0x200 0x281) 0x4321 0x280 0 (0x3080 ∷ []) 3 (0x01 ∷ 0 ∷ 0x280 ∷ 0x3080 ∷ 0 ∷ 0 ∷ 0x202 ∷ [])  -- one that hi cuts
    ∷ shut_out (opened 0x200 0x282) 0 0x280 0 (0x4890 ∷ 0x0003 ∷ []) 3 (0x01 ∷ 0 ∷ 0x282 ∷ 0x4890 ∷ 0 ∷ 0 ∷ 0x202 ∷ [])  -- MOVEM.W: none is written
    ∷ shut_out (opened 0x200 0x282) 0 0x280 0x284 (0x4850 ∷ []) 3 (0x01 ∷ 0 ∷ 0x282 ∷ 0x4850 ∷ 0 ∷ 0 ∷ 0x202 ∷ [])  -- PEA (A0): a stack outside
    ∷ shut_out (opened 0x200 0x281) 0 0 0x100 (0x4E75 ∷ []) 3 (0x11 ∷ 0 ∷ 0x100 ∷ 0x4E75 ∷ 0 ∷ 0 ∷ 0x202 ∷ [])  -- RTS: a stack outside
    ∷ let_in (opened 0 0) 0 0x280 0x2000 (0x3010 ∷ []) 0x1234 0x202 []  -- supervisor state reads outside the window
    ∷ let_in (opened 0 0) 0x4321 0x280 0x2000 (0x3080 ∷ []) 0x4321 0x202 (0x4321 ∷ [])  -- and writes there
    ∷ let_in (opened 0x200 0x202) 0 0x300 0x0000 (0x4ED0 ∷ []) 0 0x300 []  -- JMP (A0) to an address outside: the next step fetches there
    ∷ shut_out (opened 0x200 0x202) 0 0x301 0 (0x4ED0 ∷ []) 4 (0x12 ∷ 0 ∷ 0x301 ∷ 0x4ED0 ∷ 0 ∷ 0 ∷ 0x202 ∷ [])  -- to an odd one: the address error
    ∷ taken (opened 0x200 0x202) 0x4E40 0 0 33 0x2000 (0 ∷ 0 ∷ 0x202 ∷ [])  -- TRAP #0: vector and frame outside
    ∷ taken (opened 0x202 0x202) 0x4E71 7 24 25 0x2700 (0 ∷ 0 ∷ 0x200 ∷ [])  -- an interrupt: vector and frame outside
    ∷ []
