-- Under.antt - one byte of memory once a frame is put over it: from place, byte and frame alone, so that the code can look before it writes.
-- Each is named for what is put; i is the place, b the byte there before.
-- Laws: proofs/UnderLaws.antt (that memory holds it).  Source: [01 step 8], [K3], [ours].
use Rattle.std.specs.Prelude.{ℕ, ◌/◌, ◌%◌, ◌==◌}
use Rattle.bits.specs.Bits.{pick, plus}
use Rattle.bus.specs.Bus.{pins, fault_address, fault_information}

-- a byte at a  [ours]
unfoldable pub under_byte : ℕ → ℕ → ℕ → ℕ → ℕ
under_byte i b a v = pick (pins a == i) (v % 256) b

-- a word  [ours]
unfoldable pub under_word : ℕ → ℕ → ℕ → ℕ → ℕ
under_word i b a v = under_byte i (under_byte i b a (v / 256)) (plus a 1) v

-- a long  [ours]
unfoldable pub under_long : ℕ → ℕ → ℕ → ℕ → ℕ
under_long i b a v = under_word i (under_word i b a (v / 65536)) (plus a 2) v

-- the frame of six bytes  [01 step 1]
unfoldable pub under_small : ℕ → ℕ → ℕ → ℕ → ℕ → ℕ
under_small i b a sr pc = under_long i (under_word i b a sr) (plus a 2) pc

-- the first six bytes of a fault's frame  [01 step 7]
unfoldable pub under_access : ℕ → ℕ → ℕ → ℕ → ℕ
under_access i b a bad = under_long i (under_word i b a (fault_information bad)) (plus a 2) (fault_address bad)

-- the eight above them  [01 step 7]
unfoldable pub under_rest : ℕ → ℕ → ℕ → ℕ → ℕ → ℕ → ℕ
under_rest i b a op sr pc = under_small i (under_word i b a op) (plus a 2) sr pc

-- all fourteen  [01 step 7]
unfoldable pub under_big : ℕ → ℕ → ℕ → ℕ → ℕ → ℕ → ℕ → ℕ
under_big i b a bad op sr pc = under_rest i (under_access i b a bad) (plus a 6) op sr pc
