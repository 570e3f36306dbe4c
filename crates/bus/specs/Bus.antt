-- Bus.antt - what an access to lent memory gives: a value, or the fault that the instruction then carries; and what a put leaves.
-- Not modelled: bus cycles, prefetch. The instruction layers see memory and ROM only through a `View`: what a state may touch is `seen_by`,
-- and nothing above it knows of window and ROM. Laws: proofs/BusLaws.antt; crate reach shows that the parts that the code lends show it.
-- Source: [003 2.4], [003 4-1], [003 4.4.9], [003 4.4.10], [01 step 6], [01 step 7], [K7], [K10].
use Rattle.std.specs.Prelude.{ℕ, ◌+◌, ◌-◌, ◌*◌, ◌/◌, ◌%◌, Bool, false, ◌&&◌, ◌||◌, List, [], ◌∷◌, length, ◌==◌, nat_le, nat_lt, slice_index, slice_index_or, slice_set}
use Rattle.codes.specs.Codes.{Supervisor, Addresses, RomStart, BusError, AddressError, ProgramRead, DataWrite}
use Rattle.bits.specs.Bits.{pick, plus, by_size}
use Rattle.bus.specs.declared.Flow.{Flow}
use Rattle.bus.specs.declared.Fetched.{Fetched}
use Rattle.bus.specs.declared.Window.{Window}

-- the 24 bits of an address that leave the chip  [003 4.3.1] [01 Memory]
abbrev pub pins : ℕ → ℕ
pins a = a % Addresses

-- what a program can see: which bytes and words it may read, what they hold (0 elsewhere), and which it may write  [ours] [K10]
pub record View : Type 0 where
  pub byte_ok : ℕ → Bool
  pub word_ok : ℕ → Bool
  pub byte : ℕ → ℕ
  pub word : ℕ → ℕ
  pub byte_free : ℕ → Bool
  pub word_free : ℕ → Bool

-- what the host sets beside the memory, and no call changes: the window, and the ROM  [K7] [K10]
pub record Board : Type 0 where
  pub window : Window
  pub rom : List ℕ

-- the board of a window and a ROM  [ours]
abbrev pub board_of : Window → List ℕ → Board
board_of win rom = record { window = win; rom = rom }

-- the two bytes there, high byte first  [003 2.4] [01 Memory]
abbrev pub two_at : List ℕ → ℕ → ℕ
two_at m a = slice_index m a * 256 + slice_index m (a + 1)

-- all of a memory  [01 Memory]
unfoldable pub all_of : List ℕ → View
all_of m = record {
  byte_ok = λ a. nat_lt a (length m);
  word_ok = λ a. nat_lt (a + 1) (length m);
  byte = λ a. pick (nat_lt a (length m)) (slice_index m a) 0;
  word = λ a. pick (nat_lt (a + 1) (length m)) (two_at m a) 0;
  byte_free = λ a. nat_lt a (length m);
  word_free = λ a. nat_lt (a + 1) (length m);
}

-- a view as it stands in the ROM: from $F00000 on, and nothing of it can be written  [K10]
abbrev pub as_rom : View → View
as_rom v = record {
  byte_ok = λ a. nat_le RomStart a && v.byte_ok (a - RomStart);
  word_ok = λ a. nat_le RomStart a && v.word_ok (a - RomStart);
  byte = λ a. pick (nat_le RomStart a) (v.byte (a - RomStart)) 0;
  word = λ a. pick (nat_le RomStart a) (v.word (a - RomStart)) 0;
  byte_free = λ a. false;
  word_free = λ a. false;
}

-- a second view beside a first, which is asked first  [K10]
abbrev pub beside : View → View → View
beside v w = record {
  byte_ok = λ a. v.byte_ok a || w.byte_ok a;
  word_ok = λ a. v.word_ok a || w.word_ok a;
  byte = λ a. pick (v.byte_ok a) (v.byte a) (w.byte a);
  word = λ a. pick (v.word_ok a) (v.word a) (w.word a);
  byte_free = λ a. v.byte_free a || w.byte_free a;
  word_free = λ a. v.word_free a || w.word_free a;
}

-- whether a state may touch the n bytes from a on: any in supervisor state, in user state those that lie wholly in the window  [K7]
abbrev pub allowed : Bool → Window → ℕ → ℕ → Bool
allowed sup win a n = sup || (nat_le win.lo a && nat_le (a + n) win.hi)

-- what a state may touch of a view  [K7]
abbrev pub fenced : Bool → Window → View → View
fenced sup win v = record {
  byte_ok = λ a. allowed sup win a 1 && v.byte_ok a;
  word_ok = λ a. allowed sup win a 2 && v.word_ok a;
  byte = λ a. pick (allowed sup win a 1) (v.byte a) 0;
  word = λ a. pick (allowed sup win a 2) (v.word a) 0;
  byte_free = λ a. allowed sup win a 1 && v.byte_free a;
  word_free = λ a. allowed sup win a 2 && v.word_free a;
}

-- what a state may touch of a memory and of the board's ROM, to read or to write it, and what it finds there  [K7] [K10]
unfoldable pub seen_by : Bool → Board → List ℕ → View
seen_by sup board m = fenced sup board.window (beside (all_of m) (as_rom (all_of board.rom)))

-- ---- what the code lends for a view: memory below the window, of which only the length counts, and memory below the window's end; and the same
-- two of the ROM

-- part i of what is lent  [ours]
abbrev pub part : List (List ℕ) → ℕ → List ℕ
part q i = slice_index_or q i []

-- a byte, a word wholly, from the length of a first part to below that of a second  [ours]
abbrev pub byte_within : List ℕ → List ℕ → ℕ → Bool
byte_within low high a = nat_le (length low) a && nat_lt a (length high)

-- likewise  [ours]
abbrev pub word_within : List ℕ → List ℕ → ℕ → Bool
word_within low high a = nat_le (length low) a && nat_lt (a + 1) (length high)

-- what two parts show  [ours]
abbrev pub between : List ℕ → List ℕ → View
between low high = record {
  byte_ok = λ a. byte_within low high a;
  word_ok = λ a. word_within low high a;
  byte = λ a. pick (byte_within low high a) (slice_index high a) 0;
  word = λ a. pick (word_within low high a) (two_at high a) 0;
  byte_free = λ a. byte_within low high a;
  word_free = λ a. word_within low high a;
}

-- what the parts of the ROM show  [ours]
unfoldable pub rom_of : List (List ℕ) → View
rom_of q = as_rom (between (part q 2) (part q 3))

-- what the parts show  [ours]
unfoldable pub view_of : List (List ℕ) → View
view_of q = beside (between (part q 0) (part q 1)) (rom_of q)

-- the parts that show all of a memory and of a ROM  [ours]
abbrev pub whole : List ℕ → List ℕ → List (List ℕ)
whole m rom = [] ∷ m ∷ [] ∷ rom ∷ []

-- a fault in one number, never 0: the address, the information word, the vector  [ours] [01 step 7]
abbrev pub packed : ℕ → ℕ → ℕ → ℕ
packed address information vec = address % Addresses * 256 + information * 4 + vec % 4

-- the address of a fault in one number  [ours]
abbrev pub fault_address : ℕ → ℕ
fault_address bad = bad / 256

-- its information word  [ours]
abbrev pub fault_information : ℕ → ℕ
fault_information bad = bad / 4 % 64

-- its vector  [ours]
abbrev pub fault_vector : ℕ → ℕ
fault_vector bad = bad % 4

-- the information word of an access of kind k: the supervisor's function codes are 4 more than the user's  [003 4-1] [01 step 7]
abbrev pub information : ℕ → ℕ → ℕ
information k sr = k % 32 + sr / Supervisor % 2 * 4

-- the flow with a fault  [01 step 7]
abbrev pub failed : Flow → ℕ → ℕ → ℕ → Flow
failed f vec p k = record { pc = f.pc; sr = f.sr; bad = packed p (information k f.sr) vec }

-- the flow with another PC  [ours]
abbrev pub with_pc : Flow → ℕ → Flow
with_pc f p = record { pc = p; sr = f.sr; bad = f.bad }

-- the flow with another SR  [ours]
abbrev pub with_sr : Flow → ℕ → Flow
with_sr f sr = record { pc = f.pc; sr = sr; bad = f.bad }

-- after a fault nothing more is read: the first one stays  [01 step 7]
abbrev pub unless_failed : Flow → Fetched → Fetched
unless_failed f w = pick (f.bad == 0) w (record { value = 0; flow = f })

-- a byte at 24 bits that a view does not have is a bus error  [003 4.4.9] [01 step 6]
abbrev pub found_byte : View → ℕ → ℕ → Flow → Fetched
found_byte v p k f = pick (v.byte_ok p) (record { value = v.byte p; flow = f }) (record { value = 0; flow = failed f BusError p k })

-- likewise a word  [003 4.4.9] [01 step 6]
abbrev pub found_word : View → ℕ → ℕ → Flow → Fetched
found_word v p k f = pick (v.word_ok p) (record { value = v.word p; flow = f }) (record { value = 0; flow = failed f BusError p k })

-- a byte by its address  [01 step 6]
unfoldable pub read_byte : View → ℕ → ℕ → Flow → Fetched
read_byte v a k f = unless_failed f (found_byte v (pins a) k f)

-- a word at an odd address is an address error; odd is asked first  [003 4.4.10] [01 step 6]
unfoldable pub read_word : View → ℕ → ℕ → Flow → Fetched
read_word v a k f =
    unless_failed f
    (pick (pins a % 2 == 1) (record { value = 0; flow = failed f AddressError (pins a) k }) (found_word v (pins a) k f))

-- a long is two words, the upper first  [003 2.4] [01 step 6]
unfoldable pub read_long : View → ℕ → ℕ → Flow → Fetched
read_long v a k f =
    let h = read_word v a k f in
    let l = read_word v (plus a 2) k h.flow in
    record { value = h.value * 65536 + l.value; flow = l.flow }

-- by a size: a byte, a word or a long  [003 2.2]
unfoldable pub read_sized : View → ℕ → ℕ → ℕ → Flow → Fetched
read_sized v a z k f = by_size z (read_byte v a k f) (read_word v a k f) (read_long v a k f)

-- a view for a write: of what it has, what may be written  [K10]
abbrev pub for_writing : View → View
for_writing v = record {
  byte_ok = v.byte_free;
  word_ok = v.word_free;
  byte = v.byte;
  word = v.word;
  byte_free = v.byte_free;
  word_free = v.word_free;
}

-- room for a write: the same tests on what may be written, and the fault is a write's  [01 step 6] [01 step 7] [K10]
unfoldable pub room : View → ℕ → ℕ → Flow → Flow
room v a z f = (read_sized (for_writing v) a z DataWrite f).flow

-- the next word of the instruction: a program read  [003 2.7] [01 step 7]
unfoldable pub next_word : View → Flow → Fetched
next_word v f = let w = read_word v f.pc ProgramRead f in record { value = w.value; flow = with_pc w.flow (plus f.pc 2) }

-- the next two words of it, the upper first  [01 step 6]
unfoldable pub next_long : View → Flow → Fetched
next_long v f =
    let h = next_word v f in
    let l = next_word v h.flow in
    record { value = h.value * 65536 + l.value; flow = l.flow }

-- outside memory nothing is put  [ours]
abbrev pub put_byte : List ℕ → ℕ → ℕ → List ℕ
put_byte m a v = slice_set m (pins a) (v % 256)

-- high byte first  [003 2.4] [01 Memory]
unfoldable pub put_word : List ℕ → ℕ → ℕ → List ℕ
put_word m a v = put_byte (put_byte m a (v / 256)) (plus a 1) v

-- upper word first  [003 2.4] [01 step 6]
unfoldable pub put_long : List ℕ → ℕ → ℕ → List ℕ
put_long m a v = put_word (put_word m a (v / 65536)) (plus a 2) v

-- by a size: a byte, a word or a long  [003 2.2]
unfoldable pub put_sized : List ℕ → ℕ → ℕ → ℕ → List ℕ
put_sized m a z v = by_size z (put_byte m a v) (put_word m a v) (put_long m a v)
