-- Tables.antt - Appendix D's tables by addressing mode, and its exceptions by vector: clocks alone, without the reads and writes.
-- The rows of a mode: Dn, An, (An), (An)+, -(An), d(An), d(An,ix), xxx.W, xxx.L, d(PC), d(PC,ix), #. Where 003 prints no time stands 0.
-- Laws: proofs/PrintedLaws.antt, where the printed tables are held against these.  Source: [003 D-1] to [003 D-3], [003 D-8], [003 D-10], [003 D-14].
use Rattle.std.specs.Prelude.{ℕ, List, [], ◌∷◌}

-- an effective address and the fetch of its operand: byte or word, long  [003 D-1]
abbrev pub operand_table : List ℕ
operand_table =
    0 ∷ 0  -- Dn
    ∷ 0 ∷ 0  -- An
    ∷ 4 ∷ 8  -- (An)
    ∷ 4 ∷ 8  -- (An)+
    ∷ 6 ∷ 10  -- -(An)
    ∷ 8 ∷ 12  -- d(An)
    ∷ 10 ∷ 14  -- d(An,ix)
    ∷ 8 ∷ 12  -- xxx.W
    ∷ 12 ∷ 16  -- xxx.L
    ∷ 8 ∷ 12  -- d(PC)
    ∷ 10 ∷ 14  -- d(PC,ix)
    ∷ 4 ∷ 8  -- #
    ∷ []

-- what MOVE takes beside its source, by the destination: byte or word, long  [003 D-2] [003 D-3]
abbrev pub destination_table : List ℕ
destination_table =
    4 ∷ 4  -- Dn
    ∷ 4 ∷ 4  -- An
    ∷ 8 ∷ 12  -- (An)
    ∷ 8 ∷ 12  -- (An)+
    ∷ 8 ∷ 12  -- -(An)
    ∷ 12 ∷ 16  -- d(An)
    ∷ 14 ∷ 18  -- d(An,ix)
    ∷ 12 ∷ 16  -- xxx.W
    ∷ 16 ∷ 20  -- xxx.L
    ∷ []

-- LEA; PEA takes 8 more  [003 D-10]
abbrev pub lea_table : List ℕ
lea_table = 0 ∷ 0 ∷ 4 ∷ 0 ∷ 0 ∷ 8 ∷ 12 ∷ 8 ∷ 12 ∷ 8 ∷ 12 ∷ []

-- JMP; JSR takes 8 more  [003 D-10]
abbrev pub jmp_table : List ℕ
jmp_table = 0 ∷ 0 ∷ 8 ∷ 0 ∷ 0 ∷ 10 ∷ 14 ∷ 10 ∷ 12 ∷ 10 ∷ 14 ∷ []

-- MOVEM to memory, without its registers  [003 D-10]
abbrev pub store_table : List ℕ
store_table = 0 ∷ 0 ∷ 8 ∷ 0 ∷ 8 ∷ 12 ∷ 14 ∷ 12 ∷ 16 ∷ []

-- MOVEM from memory, without its registers  [003 D-10]
abbrev pub load_table : List ℕ
load_table = 0 ∷ 0 ∷ 12 ∷ 12 ∷ 0 ∷ 16 ∷ 18 ∷ 16 ∷ 20 ∷ 16 ∷ 18 ∷ []

-- BTST, BCHG, BCLR, BSET, each of a data register and of memory, with the bit's number in a register; 4 more where a word has it  [003 D-8]
abbrev pub bit_table : List ℕ
bit_table =
    6 ∷ 4  -- BTST
    ∷ 8 ∷ 8  -- BCHG
    ∷ 10 ∷ 8  -- BCLR
    ∷ 8 ∷ 8  -- BSET
    ∷ []

-- the exceptions by vector, as far as they have lines; 1010 and 1111 count as illegal  [003 D-14] [K2]
abbrev pub exception_table : List ℕ
exception_table =
    40 ∷ 40  -- reset, which is no step
    ∷ 50  -- bus error
    ∷ 50  -- address error
    ∷ 34  -- illegal instruction
    ∷ 42  -- zero divide
    ∷ 44  -- CHK, without its operand
    ∷ 34  -- TRAPV
    ∷ 34  -- privilege violation
    ∷ 34  -- trace
    ∷ 34  -- 1010
    ∷ 34  -- 1111
    ∷ []

-- the other vectors that an instruction takes: those of TRAP  [003 D-14]
abbrev pub trap_line : ℕ
trap_line = 38

-- an interrupt, whatever vector it names  [003 D-14]
abbrev pub interrupt_line : ℕ
interrupt_line = 44

-- a step of a stopped machine that takes no interrupt  [K2]
abbrev pub stopped_clocks : ℕ
stopped_clocks = 4
