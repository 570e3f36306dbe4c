-- Fields.antt - the fields of an operation word that several instructions have, by name.
-- A field that one instruction alone has stands where that instruction is defined.
-- Uses: nothing.  Source: [003 2.11], [003 2-1], [003 B].
use Rattle.std.specs.Prelude.{ℕ, ◌+◌, ◌%◌, ◌/◌}

-- the mode of the effective address, bits 5 to 3  [003 2.11] [003 2-1]
abbrev pub ea_mode : ℕ → ℕ
ea_mode op = op / 8 % 8

-- its register, bits 2 to 0  [003 2.11] [003 2-1]
abbrev pub ea_register : ℕ → ℕ
ea_register op = op % 8

-- the other register, bits 11 to 9  [003 B ADD MOVE]
abbrev pub upper_register : ℕ → ℕ
upper_register op = op / 512 % 8

-- MOVE's other mode, bits 8 to 6  [003 B MOVE]
abbrev pub upper_mode : ℕ → ℕ
upper_mode op = op / 64 % 8

-- the size, bits 7 and 6  [003 B ADD ADDI]
abbrev pub size_field : ℕ → ℕ
size_field op = op / 64 % 4

-- bit 6 where it says word or long  [003 B EXT MOVEM MOVEP]
abbrev pub long_bit : ℕ → ℕ
long_bit op = op / 64 % 2

-- the size that it says  [003 B EXT MOVEM MOVEP]
abbrev pub long_or_word : ℕ → ℕ
long_or_word op = 1 + long_bit op

-- the size of ADDA, CMPA and SUBA, by bit 8  [003 B ADDA CMPA SUBA]
abbrev pub address_size : ℕ → ℕ
address_size op = 1 + op / 256 % 2

-- the condition, from bit 8 up  [003 B Bcc DBcc Scc]
abbrev pub condition_field : ℕ → ℕ
condition_field op = op / 256
