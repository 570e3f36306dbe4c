-- UnderLaws.antt - what `Under` says of a byte is what memory holds once the frame is put.
-- Over: two memories, one with something put over the other; over_small, over_big: the two frames.
-- Uses: bits, bus.
use Rattle.std.proofs.Common.{◌≡◌, ℕ, ◌/◌, ◌%◌, ◌<◌, Bool, true, false, eqb, List, length, get_or, set, sym, refl, ◌∙◌, arith, length-set, get_or-set_other, get_or-set_same, eqb-true}
use borrow.Author.Tests.{eqb-false}
use Rattle.bits.specs.Bits.{pick, plus}
use Rattle.bus.specs.Bus.{pins, put_byte, put_word, put_long}
use Rattle.frames.specs.Frames.{small_frame, fault_access, fault_rest, big_frame}
use Rattle.frames.specs.Under.{under_byte, under_word, under_long, under_small, under_access, under_rest, under_big}

-- n is m with something put over it: where m has b at place i, n has c
pub record Over (i b c : ℕ) (m n : List ℕ) : Type 0 where
  pub same : length n ≡ length m
  pub byte : i < length m → get_or m i 0 ≡ b → get_or n i 0 ≡ c

module _ (i : ℕ) where
  over_then : {b c d : ℕ} {m n o : List ℕ} → Over i b c m n → Over i c d n o → Over i b d m o
  over_then x y =
      record { same = y.same ∙ x.same; byte = λ l e. let k = x.same in y.byte (omega (arith, k, l)) (x.byte l e) }

  over_at : (m : List ℕ) (b p x : ℕ) (t : Bool) → eqb p i ≡ t → i < length m → get_or m i 0 ≡ b → get_or (set m p x) i 0 ≡ pick t x b
  over_at m b p x true e l d =
      let q = eqb-true p i e in let y = get_or-set_same m p x 0 (omega (arith, q, l)) in cc
  over_at m b p x false e l d = get_or-set_other m p i x 0 (λ z. eqb-false p i e (sym z)) ∙ d

  over_byte : (m : List ℕ) (b a v : ℕ) → Over i b (under_byte i b a v) m (put_byte m a v)
  unfolding under_byte
  over_byte m b a v =
      record { same = length-set m (pins a) (v % 256); byte = λ l e. over_at m b (pins a) (v % 256) (eqb (pins a) i) refl l e }

  over_word : (m : List ℕ) (b a v : ℕ) → Over i b (under_word i b a v) m (put_word m a v)
  unfolding under_word put_word
  over_word m b a v = over_then (over_byte m b a (v / 256)) (over_byte (put_byte m a (v / 256)) (under_byte i b a (v / 256)) (plus a 1) v)

  over_long : (m : List ℕ) (b a v : ℕ) → Over i b (under_long i b a v) m (put_long m a v)
  unfolding under_long put_long
  over_long m b a v = over_then (over_word m b a (v / 65536)) (over_word (put_word m a (v / 65536)) (under_word i b a (v / 65536)) (plus a 2) v)

  pub over_small : (m : List ℕ) (b a sr pc : ℕ) → Over i b (under_small i b a sr pc) m (small_frame m a sr pc)
  unfolding under_small small_frame
  over_small m b a sr pc = over_then (over_word m b a sr) (over_long (put_word m a sr) (under_word i b a sr) (plus a 2) pc)

  over_access : (m : List ℕ) (b a bad : ℕ) → Over i b (under_access i b a bad) m (fault_access m a bad)
  unfolding under_access fault_access
  over_access m b a bad =
      over_then (over_word m b a (bad / 4 % 64)) (over_long (put_word m a (bad / 4 % 64)) (under_word i b a (bad / 4 % 64)) (plus a 2) (bad / 256))

  over_rest : (m : List ℕ) (b a op sr pc : ℕ) → Over i b (under_rest i b a op sr pc) m (fault_rest m a op sr pc)
  unfolding under_rest fault_rest
  over_rest m b a op sr pc = over_then (over_word m b a op) (over_small (put_word m a op) (under_word i b a op) (plus a 2) sr pc)

  pub over_big : (m : List ℕ) (b a bad op sr pc : ℕ) → Over i b (under_big i b a bad op sr pc) m (big_frame m a bad op sr pc)
  unfolding under_big big_frame
  over_big m b a bad op sr pc =
      over_then (over_access m b a bad) (over_rest (fault_access m a bad) (under_access i b a bad) (plus a 6) op sr pc)
