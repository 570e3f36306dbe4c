-- FrameLaws.antt - one law for each return of the functions of frames.
-- small_frame_is, fault_access_is, fault_rest_is, big_frame_is; under_here, under_elsewhere, under-..-is.
-- Uses: bits, bus.
use Rattle.std.proofs.Common.{◌≡◌, ℕ, ◌/◌, ◌%◌, true, false, eqb, List}
use Rattle.bits.specs.Bits.{plus}
use Rattle.bus.specs.Bus.{pins, put_word, put_long}
use Rattle.frames.specs.Frames.{small_frame, fault_access, fault_rest, big_frame}
use Rattle.frames.specs.Under.{under_byte, under_word, under_long, under_small, under_access, under_rest, under_big}

module _ (m : List ℕ) (a sr pc : ℕ) where
  pub small_frame_is : (n o : List ℕ) (b : ℕ) → n ≡ put_word m a sr → b ≡ plus a 2 → o ≡ put_long n b pc → o ≡ small_frame m a sr pc
  unfolding small_frame
  small_frame_is n o b e1 e2 e3 = cc

  pub fault_rest_is : (n o : List ℕ) (op b : ℕ) → n ≡ put_word m a op → b ≡ plus a 2 → o ≡ small_frame n b sr pc → o ≡ fault_rest m a op sr pc
  unfolding fault_rest
  fault_rest_is n o op b e1 e2 e3 = cc

  pub big_frame_is : (n o : List ℕ) (bad op b : ℕ) → n ≡ fault_access m a bad → b ≡ plus a 6 → o ≡ fault_rest n b op sr pc → o ≡ big_frame m a bad op sr pc
  unfolding big_frame
  big_frame_is n o bad op b e1 e2 e3 = cc

pub fault_access_is : (m n o : List ℕ) (a bad b : ℕ) → n ≡ put_word m a (bad / 4 % 64) → b ≡ plus a 2 → o ≡ put_long n b (bad / 256) → o ≡ fault_access m a bad
unfolding fault_access
fault_access_is m n o a bad b e1 e2 e3 = cc

-- a byte under a frame
module _ (i b a : ℕ) where
  module _ (v : ℕ) where
    pub under_here : eqb (pins a) i ≡ true → v % 256 ≡ under_byte i b a v
    unfolding under_byte
    under_here h = cc

    pub under_elsewhere : eqb (pins a) i ≡ false → b ≡ under_byte i b a v
    unfolding under_byte
    under_elsewhere h = cc

  module _ (c d : ℕ) where
    pub under_word_is : (v e : ℕ) → c ≡ under_byte i b a (v / 256) → e ≡ plus a 1 → d ≡ under_byte i c e v → d ≡ under_word i b a v
    unfolding under_word
    under_word_is v e e1 e2 e3 = cc

    pub under_long_is : (v e : ℕ) → c ≡ under_word i b a (v / 65536) → e ≡ plus a 2 → d ≡ under_word i c e v → d ≡ under_long i b a v
    unfolding under_long
    under_long_is v e e1 e2 e3 = cc

    pub under_small_is : (sr pc e : ℕ) → c ≡ under_word i b a sr → e ≡ plus a 2 → d ≡ under_long i c e pc → d ≡ under_small i b a sr pc
    unfolding under_small
    under_small_is sr pc e e1 e2 e3 = cc

    pub under_access_is : (bad e : ℕ) → c ≡ under_word i b a (bad / 4 % 64) → e ≡ plus a 2 → d ≡ under_long i c e (bad / 256) → d ≡ under_access i b a bad
    unfolding under_access
    under_access_is bad e e1 e2 e3 = cc

    pub under_rest_is : (op sr pc e : ℕ) → c ≡ under_word i b a op → e ≡ plus a 2 → d ≡ under_small i c e sr pc → d ≡ under_rest i b a op sr pc
    unfolding under_rest
    under_rest_is op sr pc e e1 e2 e3 = cc

    pub under_big_is : (bad op sr pc e : ℕ) → c ≡ under_access i b a bad → e ≡ plus a 6 → d ≡ under_rest i c e op sr pc → d ≡ under_big i b a bad op sr pc
    unfolding under_big
    under_big_is bad op sr pc e e1 e2 e3 = cc
