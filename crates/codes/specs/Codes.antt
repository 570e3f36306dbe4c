-- Codes.antt - the numbers that stand for something, each by one name: sizes, slots, registers, modes, SR's bits, vectors, events, accesses, writes.
-- Means of: src/lib.rt (DataRead here is DATA_READ there: underscores before capitals). Kinds of instruction: Kinds.antt of decode.
-- Uses: nothing.  Source: each group's own; a heading of four dashes speaks for all that stands under it.
use Rattle.std.specs.Prelude.{ℕ, ◌+◌}

-- ---- sizes, as an operation word's size field has them  [003 2.2] [003 B ADDI]
abbrev pub Byte : ℕ
Byte = 0

abbrev pub Word : ℕ
Word = 1

abbrev pub Long : ℕ
Long = 2

-- ---- the slots of a state: 0 to 7 D0 to D7, 8 to 14 A0 to A6, and these; how many there are  [01 State]
abbrev pub Usp : ℕ
Usp = 15

abbrev pub Ssp : ℕ
Ssp = 16

abbrev pub Pc : ℕ
Pc = 17

abbrev pub Sr : ℕ
Sr = 18

abbrev pub Mode : ℕ
Mode = 19

abbrev pub Slots : ℕ
Slots = 20

-- ---- the values of the slot Mode  [01 State]
abbrev pub Running : ℕ
Running = 0

abbrev pub Stopped : ℕ
Stopped = 1

abbrev pub Halted : ℕ
Halted = 2

-- how many values that slot has  [01 State]
abbrev pub Modes : ℕ
Modes = 3

-- ---- the registers of the bank that an instruction sees: 0 to 7 D0 to D7, and these; UserStack is USP in supervisor state  [ours]
abbrev pub A0 : ℕ
A0 = 8

abbrev pub A7 : ℕ
A7 = 15

abbrev pub UserStack : ℕ
UserStack = 16

-- the first number that no register has: an operand with no step names it  [ours]
abbrev pub NoRegister : ℕ
NoRegister = 17

-- ---- the status register: flags below $20, the mask's lowest bit, S, T  [003 1.2] [01 State]
abbrev pub FlagValues : ℕ
FlagValues = 0x0020

abbrev pub Mask : ℕ
Mask = 0x0100

abbrev pub Supervisor : ℕ
Supervisor = 0x2000

abbrev pub Trace : ℕ
Trace = 0x8000

-- SR after a reset: S is set and the mask is 7  [003 4.4.1] [01 Calls, Reset]
abbrev pub ResetStatus : ℕ
ResetStatus = 0x2700

-- ---- how many addresses there are, the least and the most bytes of a memory  [01 Memory] [01 Calls, table]
abbrev pub Addresses : ℕ
Addresses = 0x1000000

abbrev pub LeastMemory : ℕ
LeastMemory = 1024

abbrev pub MostMemory : ℕ
MostMemory = 16777216

-- ---- the first address of the ROM, which no memory beside it reaches, and the most bytes of a ROM  [K10]
abbrev pub RomStart : ℕ
RomStart = 0xF00000

abbrev pub MostRom : ℕ
MostRom = 1048576

-- ---- the highest level of a request, and the most steps of a run  [01 Calls, table]
abbrev pub TopLevel : ℕ
TopLevel = 7

abbrev pub MostSteps : ℕ
MostSteps = 1000000

-- ---- exception vectors  [003 4-2] [01 step 2]
abbrev pub BusError : ℕ
BusError = 2

abbrev pub AddressError : ℕ
AddressError = 3

abbrev pub IllegalInstruction : ℕ
IllegalInstruction = 4

abbrev pub ZeroDivide : ℕ
ZeroDivide = 5

abbrev pub ChkInstruction : ℕ
ChkInstruction = 6

abbrev pub TrapvInstruction : ℕ
TrapvInstruction = 7

abbrev pub PrivilegeViolation : ℕ
PrivilegeViolation = 8

abbrev pub TraceVector : ℕ
TraceVector = 9

abbrev pub Line1010 : ℕ
Line1010 = 10

abbrev pub Line1111 : ℕ
Line1111 = 11

-- TRAP #0; the other fifteen follow  [003 4-2] [01 step 2]
abbrev pub FirstTrap : ℕ
FirstTrap = 32

-- ---- a plan's vector where it is none: no trap, or a stop  [ours]
abbrev pub NoVector : ℕ
NoVector = 0

abbrev pub StopCode : ℕ
StopCode = 0x100

-- ---- a step's event: none, 1 more than the vector that was taken first, a halt  [ours]
abbrev pub NoEvent : ℕ
NoEvent = 0

abbrev pub HaltEvent : ℕ
HaltEvent = 0x101

-- the event of a vector that was taken  [ours]
abbrev pub event_of : ℕ → ℕ
event_of vec = vec + 1

-- ---- kinds of access, as the information word in user state; the supervisor's function codes are 4 more  [003 4-1] [01 step 7]
abbrev pub DataRead : ℕ
DataRead = 0x11

abbrev pub ProgramRead : ℕ
ProgramRead = 0x12

abbrev pub DataWrite : ℕ
DataWrite = 0x01

-- ---- where an operand is  [ours]
abbrev pub InRegister : ℕ
InRegister = 0

abbrev pub InMemory : ℕ
InMemory = 1

abbrev pub InInstruction : ℕ
InInstruction = 2

-- ---- what a plan writes: a byte, a word or a long by its size; nothing; MOVEM's block upward, or downward; MOVEP's bytes at every other
-- address. The last three count words (MOVEP: two bytes); 1 more, and it is longs (four bytes)  [ours]
abbrev pub NoWrite : ℕ
NoWrite = 3

abbrev pub BlockUp : ℕ
BlockUp = 4

abbrev pub BlockDown : ℕ
BlockDown = 6

abbrev pub EveryOther : ℕ
EveryOther = 8

-- ---- half of the code of MOVEM's block, words or longs  [ours]
abbrev pub Upward : ℕ
Upward = 2

abbrev pub Downward : ℕ
Downward = 3

-- ---- addressing modes that definitions name  [003 2-1]
abbrev pub InData : ℕ
InData = 0

abbrev pub Postincrement : ℕ
Postincrement = 3

abbrev pub Predecrement : ℕ
Predecrement = 4

abbrev pub Displaced : ℕ
Displaced = 5

-- the stack pointer's register number in a mode  [003 2.13.1]
abbrev pub StackPointer : ℕ
StackPointer = 7

-- ---- operations with a destination and a source  [003 B ADD SUB CMP AND OR EOR]
abbrev pub Add : ℕ
Add = 0

abbrev pub Subtract : ℕ
Subtract = 1

abbrev pub Compare : ℕ
Compare = 2

abbrev pub And : ℕ
And = 3

abbrev pub Or : ℕ
Or = 4

abbrev pub ExclusiveOr : ℕ
ExclusiveOr = 5

-- ---- those that go on from a part before  [003 B ADDX SUBX ABCD SBCD]
abbrev pub AddExtended : ℕ
AddExtended = 0

abbrev pub SubtractExtended : ℕ
SubtractExtended = 1

abbrev pub AddDecimal : ℕ
AddDecimal = 2

abbrev pub SubtractDecimal : ℕ
SubtractDecimal = 3

-- ---- those with one operand  [003 B NEG NEGX NOT CLR NBCD TAS EXT]
abbrev pub Negate : ℕ
Negate = 0

abbrev pub NegateExtended : ℕ
NegateExtended = 1

abbrev pub Complement : ℕ
Complement = 2

abbrev pub Clear : ℕ
Clear = 3

abbrev pub NegateDecimal : ℕ
NegateDecimal = 4

abbrev pub TestAndSet : ℕ
TestAndSet = 5

abbrev pub Extend : ℕ
Extend = 6

-- ---- MULS, DIVS and MULU, DIVU  [003 B MULS MULU DIVS DIVU]
abbrev pub Signed : ℕ
Signed = 0

abbrev pub Unsigned : ℕ
Unsigned = 1
