-- Clocks.antt - the rules by which a line of Appendix D gives clocks, for an instruction that takes no exception; and the clocks of an exception.
-- r and v are the registers and the view before the instruction, f the flow behind its operation word. Where 003 gives only a maximum, that counts [K2].
-- Laws: proofs/ClockLaws.antt, proofs/LargestLaws.antt.  Source: [003 D], [K2].
use Rattle.std.specs.Prelude.{ℕ, ◌+◌, ◌*◌, ◌%◌, ◌/◌, Bool, false, ◌||◌, List, get_or, ltb, eqb}
use Rattle.std.specs.Int.Bits.{bit_xor}
use Rattle.std.specs.Int.Count.{ones_in}
use Rattle.codes.specs.Codes.{Word, ChkInstruction}
use Rattle.codes.specs.Fields.{ea_mode, ea_register, upper_mode, upper_register, size_field, long_bit, condition_field}
use Rattle.bits.specs.Bits.{pick, bit}
use Rattle.flags.specs.Flags.{condition}
use Rattle.bus.specs.declared.Flow.{Flow}
use Rattle.bus.specs.Bus.{View, next_word}
use Rattle.operand.specs.Operands.{get, locate, load}
use Rattle.bitwise.specs.Bitwise.{shift_count}
use Rattle.clocks.specs.Tables.{operand_table, destination_table, lea_table, jmp_table, store_table, load_table, bit_table, exception_table, trap_line}

-- ---- effective addresses

-- the row of a mode: modes 0 to 6, then mode 7 by its register number  [003 2-1] [003 D-1]
unfoldable pub place : ℕ → ℕ → ℕ
place mode n = pick (ltb mode 7) mode (7 + n % 8)

-- that of the operation word's effective address  [003 2.11] [003 D-1]
abbrev pub place_of : ℕ → ℕ
place_of op = place (ea_mode op) (ea_register op)

-- the time of an effective address: byte or word, or long  [003 D-1]
unfoldable pub operand_clocks : ℕ → Bool → ℕ
operand_clocks op long = get_or operand_table (place_of op * 2 + bit long) 0

-- whether the operand is in a register or in the instruction  [003 D-4]
unfoldable pub direct : ℕ → Bool
direct op = ltb (place_of op) 2 || eqb (place_of op) 11

-- ---- lines whose times are by size and operand

-- a byte's or word's time, or a long's  [ours]
abbrev pub by_long : ℕ → ℕ → Bool → ℕ
by_long a b long = pick long b a

-- a and b where the operand is in a register or in the instruction, c and d where it is in memory: a and c for a byte or word, b and d for a
-- long. The time of the effective address is added; a register's is 0. The 8 of two stars in D-4 is b  [003 D-4] [003 D-5] [003 D-6]
unfoldable pub general : ℕ → ℕ → ℕ → ℕ → ℕ → Bool → ℕ
general a b c d op long = pick (direct op) (by_long a b long) (by_long c d long) + operand_clocks op long

-- bit 7 says long  [003 D-4] [003 D-5] [003 D-6]
unfoldable pub sized : ℕ → ℕ → ℕ → ℕ → ℕ → ℕ
sized a b c d op = general a b c d op (eqb (op / 128 % 2) 1)

-- bit 8 says long: ADDA, CMPA and SUBA  [003 D-4]
unfoldable pub addressed : ℕ → ℕ → ℕ → ℕ → ℕ → ℕ
addressed a b c d op = general a b c d op (eqb (op / 256 % 2) 1)

-- a byte or word, a where it is in a register or in the instruction, c in memory  [003 D-4] [003 D-6] [003 D-7] [003 D-12]
unfoldable pub narrow : ℕ → ℕ → ℕ → ℕ
narrow a c op = general a a c c op false

-- two registers, or two operands in memory where bit 3 is 1; bit 7 says long; nothing is added  [003 D-11]
unfoldable pub paired : ℕ → ℕ → ℕ → ℕ → ℕ → ℕ
paired a b c d op = let long = eqb (op / 128 % 2) 1 in pick (eqb (op / 8 % 2) 0) (by_long a b long) (by_long c d long)

-- MOVEP: bit 6 says long  [003 D-13]
unfoldable pub peripheral : ℕ → ℕ → ℕ → ℕ
peripheral a b op = by_long a b (eqb (long_bit op) 1)

-- ---- lines of their own

-- MOVE and MOVEA, long where the top four bits are 2: the time of the source and that of the destination  [003 D-2] [003 D-3]
unfoldable pub moved : ℕ → ℕ
moved op =
    let long = eqb (op / 4096) 2 in
    operand_clocks op long + get_or destination_table (place (upper_mode op) (upper_register op) * 2 + bit long) 0

-- LEA and PEA: a, and the time of the mode  [003 D-10]
unfoldable pub located : ℕ → ℕ → ℕ
located a op = a + get_or lea_table (place_of op) 0

-- JMP and JSR: the same  [003 D-10]
unfoldable pub jumped : ℕ → ℕ → ℕ
jumped a op = a + get_or jmp_table (place_of op) 0

-- MOVEM's registers: a for each word, b for each long; their number is that of the ones in the list  [003 D-10]
unfoldable pub listed : ℕ → ℕ → View → ℕ → Flow → ℕ
listed a b v op f = ones_in 16 (next_word v f).value * by_long a b (eqb (long_bit op) 1)

-- MOVEM to memory: the time of the mode, and its registers'  [003 D-10]
unfoldable pub stored : ℕ → ℕ → View → ℕ → Flow → ℕ
stored a b v op f = get_or store_table (place_of op) 0 + listed a b v op f

-- MOVEM from memory: the same  [003 D-10]
unfoldable pub loaded : ℕ → ℕ → View → ℕ → Flow → ℕ
loaded a b v op f = get_or load_table (place_of op) 0 + listed a b v op f

-- the word that MULS and MULU take from their source  [003 D-4]
unfoldable pub factor : List ℕ → View → ℕ → Flow → ℕ
factor r v op f = let q = locate r v (ea_mode op) (ea_register op) Word f in (load r v q Word q.flow).value % 65536

-- MULU: 2 more for each one of the source  [003 D-4] [K2]
unfoldable pub unsigned : ℕ → List ℕ → View → ℕ → Flow → ℕ
unsigned a r v op f = narrow a a op + ones_in 16 (factor r v op f) * 2

-- MULS: 2 more for each place where neighbours differ, in the source with a 0 behind its last bit  [003 D-4] [K2]
unfoldable pub signed : ℕ → List ℕ → View → ℕ → Flow → ℕ
signed a r v op f = let x = factor r v op f in narrow a a op + ones_in 16 (bit_xor x (x * 2 % 65536)) * 2

-- a shift of a register: 2 more for each place, by the count modulo 64; bit 7 says long  [003 D-7] [01 Arithmetic]
unfoldable pub shifted : ℕ → ℕ → List ℕ → ℕ → ℕ
shifted a b r op = by_long a b (eqb (op / 128 % 2) 1) + shift_count r op % 64 * 2

-- BTST, BCHG, BCLR, BSET: a, the operation's time, and that of the effective address of a byte; # counts as memory  [003 D-8]
unfoldable pub bit_clocks : ℕ → ℕ → ℕ
bit_clocks a op = a + get_or bit_table (size_field op * 2 + bit (ltb 1 (place_of op))) 0 + operand_clocks op false

-- Bcc, and BRA as the condition T: taken a; else b with a byte, c with a word  [003 D-9]
unfoldable pub branched : ℕ → ℕ → ℕ → ℕ → Flow → ℕ
branched a b c op f = pick (condition f.sr (condition_field op)) a (pick (eqb (op % 256) 0) c b)

-- DBcc: a where the condition holds; else b where it branches, c where the count is spent  [003 D-9]
unfoldable pub counted_by : ℕ → ℕ → ℕ → Bool → ℕ → Flow → ℕ
counted_by a b c spent op f = pick (condition f.sr (condition_field op)) a (pick spent c b)

-- it is spent where it was 0  [003 D-9]
unfoldable pub counted : ℕ → ℕ → ℕ → List ℕ → ℕ → Flow → ℕ
counted a b c r op f = counted_by a b c (eqb (get r (ea_register op) % 65536) 0) op f

-- Scc of a register: a where the condition does not hold, b where it does; of memory c  [003 D-6]
unfoldable pub conditional : ℕ → ℕ → ℕ → ℕ → Flow → ℕ
conditional a b c op f = narrow (pick (condition f.sr (condition_field op)) b a) c op

-- ---- exceptions

-- the line of a vector, the trace's too; CHK adds the time of its operand  [003 D-14] [K2]
unfoldable pub exception_clocks : ℕ → ℕ → ℕ
exception_clocks vec op = get_or exception_table vec trap_line + pick (eqb vec ChkInstruction) (operand_clocks op false) 0
