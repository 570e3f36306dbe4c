-- Frames.antt - memory with the frame of an exception: six bytes, or fourteen of a bus or address error.
-- Each lies upward from the address a. That there is room for it, and what the vector holds then, stand in crate exception.
-- Laws: proofs/FrameLaws.antt, proofs/UnderLaws.antt.  Source: [003 4.3.4], [003 4.4.9.1], [01 step 1], [01 step 7].
use Rattle.std.specs.Prelude.{ℕ, List}
use Rattle.bits.specs.Bits.{plus}
use Rattle.bus.specs.Bus.{put_word, put_long, fault_address, fault_information}

-- the six bytes of a frame written: SR, then PC  [003 4.3.4] [01 step 1]
unfoldable pub small_frame : List ℕ → ℕ → ℕ → ℕ → List ℕ
small_frame m a sr pc = put_long (put_word m a sr) (plus a 2) pc

-- from the lowest address: information word, access address  [003 4.4.9.1] [01 step 7]
unfoldable pub fault_access : List ℕ → ℕ → ℕ → List ℕ
fault_access m a bad = put_long (put_word m a (fault_information bad)) (plus a 2) (fault_address bad)

-- above them: operation word, SR, PC  [003 4.4.9.1] [01 step 7]
unfoldable pub fault_rest : List ℕ → ℕ → ℕ → ℕ → ℕ → List ℕ
fault_rest m a op sr pc = small_frame (put_word m a op) (plus a 2) sr pc

-- the fourteen bytes of a fault's frame written  [003 4.4.9.1] [01 step 7]
unfoldable pub big_frame : List ℕ → ℕ → ℕ → ℕ → ℕ → ℕ → List ℕ
big_frame m a bad op sr pc = fault_rest (fault_access m a bad) (plus a 6) op sr pc
