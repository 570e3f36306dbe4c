-- ViewLaws.antt - what lies in the window is all that a user state sees of a memory and of a ROM.
-- low_end, high_end: what the test of the window says; same_view: memories and ROMs that hold the same there show the same.
-- Uses: bits, bus.  Source: [K7], [K10].
use Prim.Native.Nat.{ℕ, ◌+◌, ◌-◌, ◌<◌, ◌≤◌}
use native.Mathlib.Omega.{arith}
use mathlib.Core.Path.{◌≡◌, refl, ap, ◌∙◌}
use mathlib.Core.Bool.{Bool, true, false, ◌&&◌, ◌||◌}
use mathlib.Core.List.{List}
use lib.ListN.{length, get_or}
use lib.Dec.{ltb, leb}
use borrow.Author.Tests.{leb-true}
use Rattle.codes.specs.Codes.{RomStart}
use Rattle.bits.specs.Bits.{pick}
use Rattle.bits.proofs.BitsLaws.{and_left, and_right}
use Rattle.bus.specs.declared.Window.{Window}
use Rattle.bus.specs.Bus.{Board, board_of, two_at, allowed, all_of, seen_by}
use Rattle.fence.specs.Fence.{Same, SameBoard}

-- what the test says
module _ (win : Window) (a n : ℕ) (t : allowed false win a n ≡ true) where
  pub low_end : win.lo ≤ a
  low_end = leb-true win.lo a (and_left (leb win.lo a) (leb (a + n) win.hi) t)

  pub high_end : a + n ≤ win.hi
  high_end = leb-true (a + n) win.hi (and_right (leb win.lo a) (leb (a + n) win.hi) t)

-- values that are equal where the test holds
chosen : (d : Bool) (x y : ℕ) → (d ≡ true → x ≡ y) → pick d x 0 ≡ pick d y 0
chosen true x y h = h refl
chosen false x y h = refl

-- what a place of memory holds, or of the ROM: b is whether it is one of memory, r whether its address is one of the ROM's, c whether the ROM has it
abbrev found : Bool → Bool → Bool → ℕ → ℕ → ℕ
found b r c x y = pick b (pick b x 0) (pick r (pick c y 0) 0)

same_found : (b b₁ r c c₁ : Bool) (x x₁ y y₁ : ℕ) → b ≡ b₁ → c ≡ c₁ → x ≡ x₁ → (r ≡ true → y ≡ y₁) → found b r c x y ≡ found b₁ r c₁ x₁ y₁
same_found b b₁ true c c₁ x x₁ y y₁ e d p q = cc (q refl)
same_found b b₁ false c c₁ x x₁ y y₁ e d p q = cc

module _ (win : Window) (m n rom rom₁ : List ℕ) (h : Same win 0 m n) (k : Same win RomStart rom rom₁) where
  shorter : (a : ℕ) → ltb a (length m) ≡ ltb a (length n)
  shorter a = ap (λ (l : ℕ). ltb a l) h.long

  shorter_rom : (a : ℕ) → ltb a (length rom) ≡ ltb a (length rom₁)
  shorter_rom a = ap (λ (l : ℕ). ltb a l) k.long

  -- byte i of s that begin at a
  at : (a s i : ℕ) → allowed false win a s ≡ true → i < s → get_or m (a + i) 0 ≡ get_or n (a + i) 0
  at a s i t g = h.bytes (a + i) (omega (arith, low_end win a s t)) (omega (arith, high_end win a s t))

  at_rom : (a s i : ℕ) → allowed false win a s ≡ true → i < s → leb RomStart a ≡ true → get_or rom (a - RomStart + i) 0 ≡ get_or rom₁ (a - RomStart + i) 0
  at_rom a s i t g r =
      let l = leb-true RomStart a r in
      k.bytes (a - RomStart + i) (omega (arith, l, low_end win a s t)) (omega (arith, l, g, high_end win a s t))

  first : (a s : ℕ) → allowed false win a (1 + s) ≡ true → get_or m a 0 ≡ get_or n a 0
  first a s t = h.bytes a (omega (arith, low_end win a (1 + s) t)) (omega (arith, high_end win a (1 + s) t))

  first_rom : (a s : ℕ) → allowed false win a (1 + s) ≡ true → leb RomStart a ≡ true → get_or rom (a - RomStart) 0 ≡ get_or rom₁ (a - RomStart) 0
  first_rom a s t r =
      let l = leb-true RomStart a r in
      k.bytes (a - RomStart) (omega (arith, l, low_end win a (1 + s) t)) (omega (arith, l, high_end win a (1 + s) t))

  abbrev byte_in : List ℕ → List ℕ → ℕ → ℕ
  byte_in x y a = found (ltb a (length x)) (leb RomStart a) (ltb (a - RomStart) (length y)) (get_or x a 0) (get_or y (a - RomStart) 0)

  abbrev word_in : List ℕ → List ℕ → ℕ → ℕ
  word_in x y a = found (ltb (a + 1) (length x)) (leb RomStart a) (ltb (a - RomStart + 1) (length y)) (two_at x a) (two_at y (a - RomStart))

  same_byte : (a : ℕ) → pick (allowed false win a 1) (byte_in m rom a) 0 ≡ pick (allowed false win a 1) (byte_in n rom₁ a) 0
  same_byte a =
      chosen (allowed false win a 1) (byte_in m rom a) (byte_in n rom₁ a)
      (λ t. same_found (ltb a (length m)) (ltb a (length n)) (leb RomStart a) (ltb (a - RomStart) (length rom)) (ltb (a - RomStart) (length rom₁))
      (get_or m a 0) (get_or n a 0) (get_or rom (a - RomStart) 0) (get_or rom₁ (a - RomStart) 0) (shorter a) (shorter_rom (a - RomStart))
      (first a 0 t) (first_rom a 0 t))

  same_word : (a : ℕ) → pick (allowed false win a 2) (word_in m rom a) 0 ≡ pick (allowed false win a 2) (word_in n rom₁ a) 0
  same_word a =
      chosen (allowed false win a 2) (word_in m rom a) (word_in n rom₁ a)
      (λ t. same_found (ltb (a + 1) (length m)) (ltb (a + 1) (length n)) (leb RomStart a) (ltb (a - RomStart + 1) (length rom))
      (ltb (a - RomStart + 1) (length rom₁)) (two_at m a) (two_at n a) (two_at rom (a - RomStart)) (two_at rom₁ (a - RomStart)) (shorter (a + 1))
      (shorter_rom (a - RomStart + 1))
      (cc (first a 1 t, at a 2 1 t (omega arith)))
      (λ r. cc (first_rom a 1 t r, at_rom a 2 1 t (omega arith) r)))

  same_seen : seen_by false (board_of win rom) m ≡ seen_by false (board_of win rom₁) n
  unfolding seen_by all_of
  same_seen =
      λ i.
      record {
        byte_ok = λ a. allowed false win a 1 && (ltb a (h.long i) || (leb RomStart a && ltb (a - RomStart) (k.long i)));
        word_ok = λ a. allowed false win a 2 && (ltb (a + 1) (h.long i) || (leb RomStart a && ltb (a - RomStart + 1) (k.long i)));
        byte = λ a. same_byte a i;
        word = λ a. same_word a i;
        byte_free = λ a. allowed false win a 1 && (ltb a (h.long i) || false);
        word_free = λ a. allowed false win a 2 && (ltb (a + 1) (h.long i) || false);
      }

pub same_view : (b c : Board) (m n : List ℕ) → SameBoard b c → Same b.window 0 m n → seen_by false b m ≡ seen_by false c n
same_view b c m n g h =
    same_seen b.window m n b.rom c.rom h g.rom ∙ ap (λ (win : Window). seen_by false (board_of win c.rom) n) g.window
