-- Rows.antt - the condition codes of 003, instruction by instruction, each beside the definition that gives its flags.
-- Not here: those that set no flag (ADDA SUBA MOVEA, ADDQ and SUBQ to An, Bcc BRA BSR DBcc Scc EXG ILLEGAL JMP JSR LEA LINK MOVEM MOVEP NOP PEA
-- RESET RTS TRAP TRAPV UNLK, MOVE from SR and USP), and those that write CCR or SR whole (ANDI EORI ORI MOVE to CCR and SR, RTE RTR STOP).
-- Theorem: flags_obey_rows of proofs/RowsLaws.antt.  Source: [003 A-1], [003 B], [01 Arithmetic], [01 step 5], [K4].
use Rattle.std.specs.Prelude.{◌%◌, ◌/◌, ◌^◌, Bool, true, false, ◌&&◌, not, List, [], ◌∷◌, ltb, leb, eqb}
use Rattle.std.specs.Int.Bits.{bit_and}
use Rattle.std.specs.Int.Signed.{quot_z}
use Rattle.bits.specs.Bits.{low}
use Rattle.flag_rows.specs.Marks.{as_result, cleared_or_kept, by_formula, kept, cleared, set_to_1, undefined, Row, row, Operands, Entry, always}
use Rattle.flag_rows.specs.Marks.{in_case}
use Rattle.alu.specs.Alu.{add, add_extended, subtract, subtract_extended, negate, negate_extended, compare, moved, and, or, exclusive_or, complement}
use Rattle.alu.specs.Alu.{extended, swapped, bit_number, bit_operation, tas, biased, check}
use Rattle.decimal.specs.Decimal.{decimal_add, decimal_subtract, decimal_negate}
use Rattle.flags.specs.declared.Flagged.{Flagged}
use Rattle.multiply_divide.specs.declared.Divided.{Divided}
use Rattle.multiply_divide.specs.MultiplyDivide.{signed_long, signed_word, outside_word, multiply_signed, multiply_unsigned, divide_signed, divide_unsigned}
use Rattle.shift.specs.Shift.{shift}

-- the row of sums and differences  [003 A-1 ADD, SUB, NEG]
abbrev pub sum_row : Row
sum_row = row as_result as_result as_result by_formula by_formula

-- the row of those with X  [003 A-1 ADDX, SUBX, NEGX] [01 Arithmetic]
abbrev pub extended_row : Row
extended_row = row as_result as_result cleared_or_kept by_formula by_formula

-- the row of comparisons  [003 A-1 CMP]
abbrev pub compare_row : Row
compare_row = row kept as_result as_result by_formula by_formula

-- the row of moves and logic  [003 A-1 MOVE, AND]
abbrev pub move_row : Row
move_row = row kept as_result as_result cleared cleared

-- the row of decimal sums and differences; N, a U in 003, is by the general rule  [003 A-1 ABCD, SBCD, NBCD] [K4]
abbrev pub decimal_row : Row
decimal_row = row as_result as_result cleared_or_kept undefined by_formula

-- the row of a shift that alters X as C  [003 A-1 LSL, LSR, ASR]
abbrev pub shift_row : Row
shift_row = row as_result as_result as_result cleared by_formula

-- the row of a rotate, which keeps X  [003 A-1 ROL, ROR]
abbrev pub rotate_row : Row
rotate_row = row kept as_result as_result cleared by_formula

-- the row of a zero divisor  [01 step 5]
abbrev pub zero_row : Row
zero_row = row kept cleared cleared cleared cleared

-- the row of a quotient outside its 16 bits  [003 B DIVS, DIVU] [01 Arithmetic]
abbrev pub overflow_row : Row
overflow_row = row kept undefined undefined set_to_1 cleared

-- CHK's first test: below 0  [003 B CHK] [01 step 5]
abbrev pub below : Operands → Bool
below o = leb 32768 (o.a % 65536)

-- CHK's second test: above the bound  [003 B CHK]
abbrev pub above : Operands → Bool
above o = ltb (biased o.b) (biased o.a)

-- DIVS and DIVU: the divisor is 0  [003 B DIVS, DIVU]
abbrev pub no_divisor : Operands → Bool
no_divisor o = eqb (o.b % 65536) 0

-- DIVS: the quotient is outside its 16 bits  [003 B DIVS] [01 Arithmetic]
abbrev pub outside_signed : Operands → Bool
outside_signed o = outside_word (quot_z (signed_long o.a) (signed_word o.b))

-- DIVU: likewise  [003 B DIVU] [01 Arithmetic]
abbrev pub outside_unsigned : Operands → Bool
outside_unsigned o = ltb 65535 (o.a / (o.b % 65536))

-- a division judged by its quotient, the low word  [003 B DIVS, DIVU]
abbrev pub by_quotient : Divided → Flagged
by_quotient d = record { value = d.value % 65536; ccr = d.ccr }

-- a shift to the left: the operands have kind 1  [ours]
abbrev pub to_left : Operands → Bool
to_left o = eqb o.k 1

-- a shift that moves nothing: the count is 0 modulo 64  [003 B ASL] [01 Arithmetic]
abbrev pub count_0 : Operands → Bool
count_0 o = eqb (o.n % 64) 0

-- every instruction with arithmetic: its row, and the definition that gives its flags  [003 B] [01 Arithmetic] [01 step 5]
abbrev pub rows : List Entry
rows =
    -- ADD, ADDI, ADDQ; SUB, SUBI, SUBQ; NEG  [003 B ADD, SUB, NEG]
    always sum_row (λ o. o.z) (λ o old. add o.a o.b o.z)
    ∷ always sum_row (λ o. o.z) (λ o old. subtract o.a o.b o.z)
    ∷ always sum_row (λ o. o.z) (λ o old. negate o.a o.z)
    -- ADDX, SUBX, NEGX  [003 B ADDX, SUBX, NEGX] [01 Arithmetic]
    ∷ always extended_row (λ o. o.z) (λ o old. add_extended o.a o.b old o.z)
    ∷ always extended_row (λ o. o.z) (λ o old. subtract_extended o.a o.b old o.z)
    ∷ always extended_row (λ o. o.z) (λ o old. negate_extended o.a old o.z)
    -- CMP, CMPA, CMPI, CMPM: judged by the difference  [003 B CMP]
    ∷ always compare_row (λ o. o.z) (λ o old. record { value = (subtract o.a o.b o.z).value; ccr = (compare o.a o.b old o.z).ccr })
    -- MOVE, TST; MOVEQ  [003 B MOVE, TST, MOVEQ]
    ∷ always move_row (λ o. o.z) (λ o old. moved o.b old o.z)
    ∷ always move_row (λ o. 2) (λ o old. moved o.b old 2)
    -- CLR  [003 B CLR]
    ∷ always (row kept cleared set_to_1 cleared cleared) (λ o. o.z) (λ o old. moved 0 old o.z)
    -- AND, ANDI; OR, ORI; EOR, EORI; NOT  [003 B AND, OR, EOR, NOT]
    ∷ always move_row (λ o. o.z) (λ o old. and o.a o.b old o.z)
    ∷ always move_row (λ o. o.z) (λ o old. or o.a o.b old o.z)
    ∷ always move_row (λ o. o.z) (λ o old. exclusive_or o.a o.b old o.z)
    ∷ always move_row (λ o. o.z) (λ o old. complement o.a old o.z)
    -- EXT; SWAP; TAS, judged by the byte before  [003 B EXT, SWAP, TAS]
    ∷ always move_row (λ o. o.z) (λ o old. extended o.a old o.z)
    ∷ always move_row (λ o. 2) (λ o old. swapped o.a old)
    ∷ always move_row (λ o. 0) (λ o old. record { value = low o.a 0; ccr = (tas o.a old).ccr })
    -- BTST, BCHG, BCLR, BSET: judged by the bit before  [003 B BTST, BCHG, BCLR, BSET]
    ∷ always (row kept kept as_result kept kept) (λ o. o.z)
    (λ o old. record { value = bit_and o.a (2 ^ bit_number o.n o.z); ccr = (bit_operation o.a o.n o.k old o.z).ccr })
    -- CHK below 0, above the bound, within  [003 B CHK] [01 step 5]
    ∷ in_case (row kept set_to_1 undefined undefined undefined) below (λ o. 1) (λ o old. check o.a o.b old)
    ∷ in_case (row kept cleared undefined undefined undefined) (λ o. not (below o) && above o) (λ o. 1) (λ o old. check o.a o.b old)
    ∷ in_case (row kept undefined undefined undefined undefined) (λ o. not (below o) && not (above o)) (λ o. 1) (λ o old. check o.a o.b old)
    -- ABCD, SBCD, NBCD  [003 B ABCD, SBCD, NBCD] [01 Arithmetic] [K4]
    ∷ always decimal_row (λ o. 0) (λ o old. decimal_add o.a o.b old)
    ∷ always decimal_row (λ o. 0) (λ o old. decimal_subtract o.a o.b old)
    ∷ always decimal_row (λ o. 0) (λ o old. decimal_negate o.a old)
    -- MULS, MULU  [003 B MULS, MULU]
    ∷ always move_row (λ o. 2) (λ o old. multiply_signed o.a o.b old)
    ∷ always move_row (λ o. 2) (λ o old. multiply_unsigned o.a o.b old)
    -- DIVS, DIVU, judged by the quotient: within its 16 bits, outside, zero divisor  [003 B DIVS, DIVU] [01 Arithmetic] [01 step 5]
    ∷ in_case move_row (λ o. not (no_divisor o) && not (outside_signed o)) (λ o. 1) (λ o old. by_quotient (divide_signed o.a o.b old))
    ∷ in_case move_row (λ o. not (no_divisor o) && not (outside_unsigned o)) (λ o. 1) (λ o old. by_quotient (divide_unsigned o.a o.b old))
    ∷ in_case overflow_row (λ o. not (no_divisor o) && outside_signed o) (λ o. 1) (λ o old. by_quotient (divide_signed o.a o.b old))
    ∷ in_case overflow_row (λ o. not (no_divisor o) && outside_unsigned o) (λ o. 1) (λ o old. by_quotient (divide_unsigned o.a o.b old))
    ∷ in_case zero_row no_divisor (λ o. 1) (λ o old. by_quotient (divide_signed o.a o.b old))
    ∷ in_case zero_row no_divisor (λ o. 1) (λ o old. by_quotient (divide_unsigned o.a o.b old))
    -- ASL; ASR; both by no place  [003 B ASL] [003 A-1] [01 Arithmetic]
    ∷ in_case sum_row (λ o. not (count_0 o)) (λ o. o.z) (λ o old. shift 0 true o.a o.n o.z old)
    ∷ in_case shift_row (λ o. not (count_0 o)) (λ o. o.z) (λ o old. shift 0 false o.a o.n o.z old)
    ∷ in_case move_row count_0 (λ o. o.z) (λ o old. shift 0 (to_left o) o.a o.n o.z old)
    -- LSL, LSR; by no place  [003 B LSL] [003 A-1] [01 Arithmetic]
    ∷ in_case shift_row (λ o. not (count_0 o)) (λ o. o.z) (λ o old. shift 1 (to_left o) o.a o.n o.z old)
    ∷ in_case move_row count_0 (λ o. o.z) (λ o old. shift 1 (to_left o) o.a o.n o.z old)
    -- ROXL, ROXR; by no place C is X, which is kept  [003 B ROXL] [003 A-1] [01 Arithmetic]
    ∷ always shift_row (λ o. o.z) (λ o old. shift 2 (to_left o) o.a o.n o.z old)
    ∷ in_case rotate_row count_0 (λ o. o.z) (λ o old. shift 2 (to_left o) o.a o.n o.z old)
    -- ROL, ROR; by no place  [003 B ROL] [003 A-1] [01 Arithmetic]
    ∷ always rotate_row (λ o. o.z) (λ o old. shift 3 (to_left o) o.a o.n o.z old)
    ∷ in_case move_row count_0 (λ o. o.z) (λ o old. shift 3 (to_left o) o.a o.n o.z old)
    ∷ []
