-- Refusals.antt - the tables of [01 Calls]: for each call the numbers that it can give, in order, and when each applies; a run's reasons.
-- Not here: what a call gives back (Calls.antt).
-- Laws: proofs/RefusalLaws.antt, proofs/FormedLaws.antt, proofs/RunLaws.antt.  Source: [01 Calls and what they give back], [K5], [K7], [K10].
use Rattle.std.specs.Prelude.{ℕ, ◌-◌, ◌%◌, ◌<◌, ◌≡◌, false, List, [], ◌∷◌, length}
use Rattle.codes.specs.Codes.{Stopped, Halted, LeastMemory, MostMemory, RomStart, MostRom, TopLevel, MostSteps}
use Rattle.bus.specs.Bus.{Board}
use Rattle.bank.specs.Bank.{pc_of, sr_of, mode_of}
use Rattle.record.specs.Limits.{longest_record, valid_status}
use Rattle.undo.specs.Undo.{none, well_formed}
use Rattle.oldest.specs.Room.{torn, rows_of}
use Rattle.calls.specs.declared.Manner.{Manner}
use Rattle.calls.specs.declared.Manner.TheVariants.{Dropping, Keeping}
use Rattle.calls.specs.Calls.{window_end}

-- a line of a table: a number, and when it applies  [01 Calls, table]
pub record Line : Type 1 where
  pub number : ℕ
  pub applies : Type 0

-- n is the number of the first line that applies, or 0 where none does  [01 Calls, table]
pub data Given : List Line → ℕ → Type 1 where
  zero_at_end : Given [] 0
  this : {l : Line} {ls : List Line} {n : ℕ} → l.applies → n ≡ l.number → Given (l ∷ ls) n
  later : {l : Line} {ls : List Line} {n : ℕ} → (l.applies → ⊥) → Given ls n → Given (l ∷ ls) n

-- no line applies  [01 Calls, table]
abbrev pub NoneApplies : List Line → Type 0
NoneApplies [] = Unit {0}
NoneApplies (l ∷ ls) = (l.applies → ⊥) × NoneApplies ls

-- memory length is odd, below 1,024 or above 16,777,216  [01 Calls, table]
pub data BadMemory (m : List ℕ) : Type 0 where
  odd : length m % 2 ≡ 1 → BadMemory m
  short : length m < LeastMemory → BadMemory m
  long : MostMemory < length m → BadMemory m

-- SR has a bit outside $A71F, or mode is above 2  [01 Calls, table]
pub data BadState (s : List ℕ) : Type 0 where
  stray_bit : valid_status (sr_of s) ≡ false → BadState s
  no_mode : Halted < mode_of s → BadState s

-- the ROM's length is odd or above 1,048,576, or there is a ROM and memory is longer than 15,728,640, where it begins  [K10]
pub data BadRom (rom m : List ℕ) : Type 0 where
  odd_rom : length rom % 2 ≡ 1 → BadRom rom m
  long_rom : MostRom < length rom → BadRom rom m
  no_place : 0 < length rom → RomStart < length m → BadRom rom m

-- lo is above hi, or hi above the end of memory, or of the ROM where there is one  [K7] [K10]
pub data BadWindow (board : Board) (m : List ℕ) : Type 0 where
  turned_round : board.window.hi < board.window.lo → BadWindow board m
  past_end : window_end board.rom m < board.window.hi → BadWindow board m

-- a memory that does not fit: refusal 1  [01 Calls, table]
abbrev pub memory_line : List ℕ → Line
memory_line m = record { number = 1; applies = BadMemory m }

-- a state that does not fit: refusal 2  [01 Calls, table]
abbrev pub state_line : List ℕ → Line
state_line s = record { number = 2; applies = BadState s }

-- a ROM that does not fit, or memory beside it: refusal 12  [K10]
abbrev pub rom_line : List ℕ → List ℕ → Line
rom_line rom m = record { number = 12; applies = BadRom rom m }

-- a window that does not fit: refusal 10  [K7]
abbrev pub window_line : Board → List ℕ → Line
window_line board m = record { number = 10; applies = BadWindow board m }

-- the lines of step, run and undo that come first: 1, 12, 2 and 10  [01 Calls, table] [K7] [K10]
abbrev pub first_lines : Board → List ℕ → List ℕ → List Line → List Line
first_lines board s m ls = memory_line m ∷ rom_line board.rom m ∷ state_line s ∷ window_line board m ∷ ls

-- a mark past the journal's end: refusal 4  [01 Calls, table]
abbrev pub mark_line : List ℕ → ℕ → Line
mark_line j mark = record { number = 4; applies = length j < mark }

-- no room for one more record: the journal is shorter than the longest altogether, or, where all are kept, fewer bytes are free
-- [K5] [01 Calls, table]
abbrev pub NoRoom : Manner → List ℕ → ℕ → Type 0
NoRoom Dropping j mark = length j < longest_record
NoRoom Keeping j mark = length j - mark < longest_record

-- records must be dropped, and one on the way back is not well shaped  [K5]
abbrev pub TornWay : ℕ → List ℕ → ℕ → Type 0
TornWay len j mark = (length j - mark < longest_record) × (rows_of len j mark ≡ torn)

-- a line of the dropping manner alone  [K5]
abbrev pub when_dropping : Manner → Line → List Line → List Line
when_dropping Dropping l ls = l ∷ ls
when_dropping Keeping l ls = ls

-- reset gives 1 and 12  [01 Calls, table] [K10]
abbrev pub reset_table : List ℕ → List ℕ → List Line
reset_table m rom = memory_line m ∷ rom_line rom m ∷ []

-- step gives 1, 12, 2, 10 and 3 to 6, and 8 where it may drop records  [01 Calls, table] [K5] [K7] [K10]
abbrev pub step_table : Manner → Board → List ℕ → List ℕ → ℕ → List ℕ → ℕ → List Line
step_table w board s m level j mark =
    first_lines board s m
    (record { number = 3; applies = TopLevel < level }
    ∷ mark_line j mark
    ∷ record { number = 5; applies = NoRoom w j mark }
    ∷ record { number = 6; applies = mode_of s ≡ Halted }
    ∷ when_dropping w (record { number = 8; applies = TornWay (length m) j mark }) [])

-- run gives 1, 12, 2, 10, 3 and 4, in either manner  [01 Calls, table] [K7] [K10]
abbrev pub run_table : Board → List ℕ → List ℕ → ℕ → List ℕ → ℕ → List Line
run_table board s m budget j mark = first_lines board s m (record { number = 3; applies = MostSteps < budget } ∷ mark_line j mark ∷ [])

-- undo gives 1, 12, 2, 10, 4, 7 and 8; what well formed means, clause by clause, is Formed of undo (undo_gives_8)  [01 Calls, table] [K7] [K10]
abbrev pub undo_table : Board → List ℕ → List ℕ → List ℕ → ℕ → List Line
undo_table board s m j mark =
    first_lines board s m
    (mark_line j mark
    ∷ record { number = 7; applies = mark ≡ 0 }
    ∷ record { number = 8; applies = well_formed s m j mark ≡ none }
    ∷ [])

-- the reasons that end a run, with n steps done, in the order in which it asks: 6 is asked right after 4  [01 Calls, Run] [K5]
abbrev pub reasons : Manner → ℕ → ℕ → ℕ → List ℕ → List ℕ → List ℕ → ℕ → List Line
reasons w budget stop n s m j mark =
    record { number = 1; applies = n ≡ budget }
    ∷ record { number = 2; applies = mode_of s ≡ Halted }
    ∷ record { number = 3; applies = mode_of s ≡ Stopped }
    ∷ record { number = 4; applies = NoRoom w j mark }
    ∷ when_dropping w (record { number = 6; applies = TornWay (length m) j mark })
    (record { number = 5; applies = pc_of s ≡ stop } ∷ [])
