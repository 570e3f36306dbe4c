-- BusLaws.antt - one law for each return of the functions of bus: the leaves on the parts, all others over any view. whole_shows: the parts
-- of all of a memory and of a ROM show all of both. room_keeps: asking for room changes no more of a flow than its fault.
-- Uses: bits.
use Rattle.std.proofs.Common.{◌≡◌, ℕ, zero, suc, ◌+◌, ◌-◌, ◌*◌, ◌%◌, ◌^◌, ◌<◌, ◌≤◌, Bool, true, false, ◌&&◌, ◌||◌, eqb, ltb, leb, List, [], ◌∷◌, map, length, get_or, sym, refl, ap, ◌∙◌, arith, ltb-true, le-ltb, lt-ltb, ne_eqb, eqb-true, le-leb, leb-true}
use Rattle.codes.specs.Codes.{RomStart}
use Rattle.bits.specs.Bits.{pick, plus, by_size}
use Rattle.bits.proofs.BitsLaws.{and_left, and_right, and_both}
use Rattle.bus.specs.declared.Flow.{Flow}
use Rattle.bus.specs.declared.Fetched.{Fetched}
use Rattle.bus.specs.Bus.{View, two_at, all_of, as_rom, beside, part, byte_within, word_within, between, rom_of, view_of, whole, pins, failed, with_pc}
use Rattle.bus.specs.Bus.{found_byte, found_word, read_byte, read_word, read_long, read_sized, for_writing, room, next_word, next_long}

abbrev fetched : ℕ → Flow → Fetched
fetched v f = record { value = v; flow = f }

-- what the second of two tests says
pub and_lt : (x : Bool) (a b : ℕ) → (x && ltb a b) ≡ true → a < b
and_lt x a b e = ltb-true a b (and_right x (ltb a b) e)

pub and_lt_before : (x : Bool) (a b : ℕ) → (x && ltb (a + 1) b) ≡ true → a < b
and_lt_before x a b e = omega (arith, and_lt x (a + 1) b e)

pub and_lt_two : (x : Bool) (a b : ℕ) → (x && ltb (a + 3) b) ≡ true → a + 1 < b
and_lt_two x a b e = omega (arith, and_lt x (a + 3) b e)

pub and_lt_four : (x : Bool) (a b : ℕ) → (x && ltb (a + 3) b) ≡ true → a + 2 + 1 < b
and_lt_four x a b e = omega (arith, and_lt x (a + 3) b e)

-- the part at i of a list of loans
pub part_is : {A : Type 0} (g : A → List ℕ) (l : List A) (i : ℕ) (d : A) → g (get_or l i d) ≡ get_or (map g l) i (g d)
part_is g [] i d = refl
part_is g (x ∷ xs) zero d = refl
part_is g (x ∷ xs) (suc i) d = part_is g xs i d

-- no address lies below an empty part
from_none : (a : ℕ) (b : Bool) → (leb (length {A = ℕ} []) a && b) ≡ b
from_none a b = ap (λ (x : Bool). x && b) (le-leb 0 a (omega arith))

all_between : (m : List ℕ) → between [] m ≡ all_of m
unfolding all_of
all_between m =
    λ j.
    record {
      byte_ok = λ a. from_none a (ltb a (length m)) j;
      word_ok = λ a. from_none a (ltb (a + 1) (length m)) j;
      byte = λ a. pick (from_none a (ltb a (length m)) j) (get_or m a 0) 0;
      word = λ a. pick (from_none a (ltb (a + 1) (length m)) j) (two_at m a) 0;
      byte_free = λ a. from_none a (ltb a (length m)) j;
      word_free = λ a. from_none a (ltb (a + 1) (length m)) j;
    }

pub whole_shows : (m rom : List ℕ) → view_of (whole m rom) ≡ beside (all_of m) (as_rom (all_of rom))
unfolding view_of rom_of
whole_shows m rom = λ j. beside (all_between m j) (as_rom (all_between rom j))

-- an empty ROM has nothing
none_there : (a : ℕ) (b : Bool) → (b && ltb a 0) ≡ false
none_there a true = le-ltb a 0 (omega arith)
none_there a false = refl

no_rom_test : (x b : Bool) → b ≡ false → (x || b) ≡ x
no_rom_test true b e = refl
no_rom_test false b e = e

no_rom_value : (x b c : Bool) (y : ℕ) → pick x (pick x y 0) (pick b (pick c 0 0) 0) ≡ pick x y 0
no_rom_value true b c y = refl
no_rom_value false true true y = refl
no_rom_value false true false y = refl
no_rom_value false false c y = refl

without_rom : (m : List ℕ) → beside (all_of m) (as_rom (all_of [])) ≡ all_of m
unfolding all_of
without_rom m =
    λ j.
    record {
      byte_ok = λ a. no_rom_test (ltb a (length m)) (leb RomStart a && ltb (a - RomStart) 0) (none_there (a - RomStart) (leb RomStart a)) j;
      word_ok = λ a. no_rom_test (ltb (a + 1) (length m)) (leb RomStart a && ltb (a - RomStart + 1) 0) (none_there (a - RomStart + 1) (leb RomStart a)) j;
      byte = λ a. no_rom_value (ltb a (length m)) (leb RomStart a) (ltb (a - RomStart) 0) (get_or m a 0) j;
      word = λ a. no_rom_value (ltb (a + 1) (length m)) (leb RomStart a) (ltb (a - RomStart + 1) 0) (two_at m a) j;
      byte_free = λ a. no_rom_test (ltb a (length m)) false refl j;
      word_free = λ a. no_rom_test (ltb (a + 1) (length m)) false refl j;
    }

-- the leaves: first is the length of the first part, m the second
module _ (q : List (List ℕ)) (a k : ℕ) (f : Flow) (first : ℕ) (m : List ℕ) where
  module _ (c : eqb f.bad 0 ≡ true) (l : first ≡ length (part q 0)) (h : m ≡ part q 1) where
    pub byte_inside : (v : ℕ) → (leb first (pins a) && ltb (pins a) (length m)) ≡ true → v ≡ get_or m (pins a) 0 → fetched v f ≡ read_byte (view_of q) a k f
    unfolding read_byte view_of
    byte_inside v t e = cc

    pub byte_elsewhere : (r : Fetched) → (leb first (pins a) && ltb (pins a) (length m)) ≡ false → r ≡ found_byte (rom_of q) (pins a) k f → r ≡ read_byte (view_of q) a k f
    unfolding read_byte view_of
    byte_elsewhere r t e = cc

    pub word_inside : (x y : ℕ) → eqb (pins a % 2) 1 ≡ false → (leb first (pins a) && ltb (pins a + 1) (length m)) ≡ true → x ≡ get_or m (pins a) 0 → y ≡ get_or m (pins a + 1) 0 → fetched (x * 256 + y) f ≡ read_word (view_of q) a k f
    unfolding read_word view_of
    word_inside x y o t e d = cc

    pub word_elsewhere : (r : Fetched) → eqb (pins a % 2) 1 ≡ false → (leb first (pins a) && ltb (pins a + 1) (length m)) ≡ false → r ≡ found_word (rom_of q) (pins a) k f → r ≡ read_word (view_of q) a k f
    unfolding read_word view_of
    word_elsewhere r o t e = cc

    pub byte_free : (leb first (pins a) && ltb (pins a) (length m)) ≡ true → f ≡ (read_byte (for_writing (view_of q)) a k f).flow
    unfolding read_byte view_of
    byte_free t = cc

    pub byte_not_free : (g : Flow) → (leb first (pins a) && ltb (pins a) (length m)) ≡ false → g ≡ failed f 2 (pins a) k → g ≡ (read_byte (for_writing (view_of q)) a k f).flow
    unfolding read_byte view_of rom_of
    byte_not_free g t e = cc

    pub word_free : eqb (pins a % 2) 1 ≡ false → (leb first (pins a) && ltb (pins a + 1) (length m)) ≡ true → f ≡ (read_word (for_writing (view_of q)) a k f).flow
    unfolding read_word view_of
    word_free o t = cc

    pub word_not_free : (g : Flow) → eqb (pins a % 2) 1 ≡ false → (leb first (pins a) && ltb (pins a + 1) (length m)) ≡ false → g ≡ failed f 2 (pins a) k → g ≡ (read_word (for_writing (view_of q)) a k f).flow
    unfolding read_word view_of rom_of
    word_not_free g o t e = cc

-- those of the ROM: i is the place of p, which is one of the ROM's where p is not below its start
module _ (p i : ℕ) (w : (i + RomStart) % 2 ^ 32 ≡ p) (small : i < 2 ^ 32) where
  same_place : leb RomStart p ≡ true → i ≡ p - RomStart
  same_place t = omega (arith, leb-true RomStart p t)

  asked_there : (first : ℕ) (g : ℕ → Bool) → ((leb RomStart p && leb first i) && g i) ≡ (leb RomStart p && (leb first (p - RomStart) && g (p - RomStart)))
  asked_there first g = go (leb RomStart p) refl
    where
      go : (b : Bool) → leb RomStart p ≡ b → ((b && leb first i) && g i) ≡ (b && (leb first (p - RomStart) && g (p - RomStart)))
      go true t = ap (λ (n : ℕ). leb first n && g n) (same_place t)
      go false t = refl

-- first is the length of the third part, m the fourth
module _ (q : List (List ℕ)) (p k : ℕ) (f : Flow) (i first : ℕ) (m : List ℕ) (w : (i + RomStart) % 2 ^ 32 ≡ p) (small : i < 2 ^ 32)
    (l : first ≡ length (part q 2)) (h : m ≡ part q 3) where
  pub rom_byte_inside : (v : ℕ) → ((leb RomStart p && leb first i) && ltb i (length m)) ≡ true → v ≡ get_or m i 0 → fetched v f ≡ found_byte (rom_of q) p k f
  unfolding rom_of
  rom_byte_inside v t e =
      let a = asked_there p i w small first (λ n. ltb n (length m)) in
      let r = and_left (leb RomStart p) (leb first i) (and_left (leb RomStart p && leb first i) (ltb i (length m)) t) in
      let z = same_place p i w small r in cc

  pub rom_byte_outside : (g : Flow) → ((leb RomStart p && leb first i) && ltb i (length m)) ≡ false → g ≡ failed f 2 p k → fetched 0 g ≡ found_byte (rom_of q) p k f
  unfolding rom_of
  rom_byte_outside g t e = let a = asked_there p i w small first (λ n. ltb n (length m)) in cc

  pub rom_word_inside : (x y : ℕ) → ((leb RomStart p && leb first i) && ltb (i + 1) (length m)) ≡ true → x ≡ get_or m i 0 → y ≡ get_or m (i + 1) 0
      → fetched (x * 256 + y) f ≡ found_word (rom_of q) p k f
  unfolding rom_of
  rom_word_inside x y t e d =
      let a = asked_there p i w small first (λ n. ltb (n + 1) (length m)) in
      let r = and_left (leb RomStart p) (leb first i) (and_left (leb RomStart p && leb first i) (ltb (i + 1) (length m)) t) in
      let z = same_place p i w small r in cc

  pub rom_word_outside : (g : Flow) → ((leb RomStart p && leb first i) && ltb (i + 1) (length m)) ≡ false → g ≡ failed f 2 p k → fetched 0 g ≡ found_word (rom_of q) p k f
  unfolding rom_of
  rom_word_outside g t e = let a = asked_there p i w small first (λ n. ltb (n + 1) (length m)) in cc

module _ (v : View) (a k : ℕ) (f : Flow) where
  pub word_odd : (g : Flow) → eqb f.bad 0 ≡ true → eqb (pins a % 2) 1 ≡ true → g ≡ failed f 3 (pins a) k → fetched 0 g ≡ read_word v a k f
  unfolding read_word
  word_odd g c t e = cc

  pub byte_when_failed : eqb f.bad 0 ≡ false → fetched 0 f ≡ read_byte v a k f
  unfolding read_byte
  byte_when_failed c = cc

  pub word_when_failed : eqb f.bad 0 ≡ false → fetched 0 f ≡ read_word v a k f
  unfolding read_word
  word_when_failed c = cc

  pub long_is : (h l : Fetched) (b : ℕ) → h ≡ read_word v a k f → b ≡ plus a 2 → l ≡ read_word v b k h.flow → fetched (h.value * 65536 + l.value) l.flow ≡ read_long v a k f
  unfolding read_long
  long_is h l b p e q = cc

-- a long that lies wholly in memory: first is the length of the first part, m the second; b is the test of its last byte
module _ (q : List (List ℕ)) (a k : ℕ) (f : Flow) (first : ℕ) (m : List ℕ) (l : first ≡ length (part q 0)) (h : m ≡ part q 1) where
  abbrev plain : Bool
  plain = ((((eqb f.bad 0 && eqb (pins a % 2) 0) && ltb (pins a) 16777212) && leb first (pins a)) && ltb (pins a + 3) (length m))

  pub long_inside : (x y : ℕ) → plain ≡ true → x ≡ two_at m (pins a) → y ≡ two_at m (pins a + 2) → fetched (x * 65536 + y) f ≡ read_long (view_of q) a k f
  long_inside x y t d e =
      let t₄ = and_left (((eqb f.bad 0 && eqb (pins a % 2) 0) && ltb (pins a) 16777212) && leb first (pins a)) (ltb (pins a + 3) (length m)) t in
      let end = and_lt (((eqb f.bad 0 && eqb (pins a % 2) 0) && ltb (pins a) 16777212) && leb first (pins a)) (pins a + 3) (length m) t in
      let t₃ = and_left ((eqb f.bad 0 && eqb (pins a % 2) 0) && ltb (pins a) 16777212) (leb first (pins a)) t₄ in
      let from = leb-true first (pins a) (and_right ((eqb f.bad 0 && eqb (pins a % 2) 0) && ltb (pins a) 16777212) (leb first (pins a)) t₄) in
      let t₂ = and_left (eqb f.bad 0 && eqb (pins a % 2) 0) (ltb (pins a) 16777212) t₃ in
      let high = and_lt (eqb f.bad 0 && eqb (pins a % 2) 0) (pins a) 16777212 t₃ in
      let clean = and_left (eqb f.bad 0) (eqb (pins a % 2) 0) t₂ in
      let even = eqb-true (pins a % 2) 0 (and_right (eqb f.bad 0) (eqb (pins a % 2) 0) t₂) in
      let next : pins (plus a 2) ≡ pins a + 2 = omega (arith, high) in
      let upper = word_inside q a k f first m clean l h (get_or m (pins a) 0) (get_or m (pins a + 1) 0) (ne_eqb (pins a % 2) 1 (λ z. omega (arith, even, z)))
      (and_both (leb first (pins a)) (ltb (pins a + 1) (length m)) (le-leb first (pins a) from) (lt-ltb (pins a + 1) (length m) (omega (arith, end)))) refl refl in
      let lower = lower_is next (omega (arith, even)) (omega (arith, from)) (omega (arith, end)) clean in
      cc (long_is (view_of q) a k f (fetched (two_at m (pins a)) f) (fetched (two_at m (pins a + 2)) f) (plus a 2) upper refl lower, d, e)
    where
      lower_is : pins (plus a 2) ≡ pins a + 2 → (pins a + 2) % 2 ≡ 0 → first ≤ pins a + 2 → pins a + 2 + 1 < length m → eqb f.bad 0 ≡ true
          → fetched (two_at m (pins a + 2)) f ≡ read_word (view_of q) (plus a 2) k f
      lower_is n o g u c =
          ap (λ (i : ℕ). fetched (two_at m i) f) (sym n)
          ∙ word_inside q (plus a 2) k f first m c l h (get_or m (pins (plus a 2)) 0) (get_or m (pins (plus a 2) + 1) 0)
          (ne_eqb (pins (plus a 2) % 2) 1 (λ z. omega (arith, n, o, z)))
          (and_both (leb first (pins (plus a 2))) (ltb (pins (plus a 2) + 1) (length m)) (le-leb first (pins (plus a 2)) (omega (arith, n, g)))
          (lt-ltb (pins (plus a 2) + 1) (length m) (omega (arith, n, u)))) refl refl

module _ (v : View) (a z : ℕ) (f : Flow) where
  pub room_byte : (g : Flow) → eqb z 0 ≡ true → g ≡ (read_byte (for_writing v) a 1 f).flow → g ≡ room v a z f
  unfolding room read_sized by_size
  room_byte g t e = cc

  pub room_word : (g : Flow) → eqb z 0 ≡ false → eqb z 1 ≡ true → g ≡ (read_word (for_writing v) a 1 f).flow → g ≡ room v a z f
  unfolding room read_sized by_size
  room_word g t u e = cc

  pub room_long : (g h : Flow) (b : ℕ) → eqb z 0 ≡ false → eqb z 1 ≡ false → g ≡ (read_word (for_writing v) a 1 f).flow → b ≡ plus a 2
      → h ≡ (read_word (for_writing v) b 1 g).flow → h ≡ room v a z f
  unfolding room read_sized read_long by_size
  room_long g h b t u e d k = cc

-- what a flow is where a word is odd, and after a fault
module _ (v : View) (a k : ℕ) (f : Flow) where
  pub odd_flow : (g : Flow) → eqb f.bad 0 ≡ true → eqb (pins a % 2) 1 ≡ true → g ≡ failed f 3 (pins a) k → g ≡ (read_word v a k f).flow
  unfolding read_word
  odd_flow g c t e = cc

  pub byte_flow_failed : eqb f.bad 0 ≡ false → f ≡ (read_byte v a k f).flow
  unfolding read_byte
  byte_flow_failed c = cc

  pub word_flow_failed : eqb f.bad 0 ≡ false → f ≡ (read_word v a k f).flow
  unfolding read_word
  word_flow_failed c = cc

-- an access changes no more of a flow than its fault
module _ (v : View) (k : ℕ) where
  abbrev Kept : Flow → Flow → Type 0
  Kept f g = (g.pc ≡ f.pc) × (g.sr ≡ f.sr)

  byte_keeps : (a : ℕ) (f : Flow) → Kept f (read_byte v a k f).flow
  unfolding read_byte
  byte_keeps a f = go (eqb f.bad 0) (v.byte_ok (pins a))
    where
      go : (b c : Bool) → Kept f (pick b (pick c (fetched (v.byte (pins a)) f) (fetched 0 (failed f 2 (pins a) k))) (fetched 0 f)).flow
      go true true = (refl, refl)
      go true false = (refl, refl)
      go false c = (refl, refl)

  word_keeps : (a : ℕ) (f : Flow) → Kept f (read_word v a k f).flow
  unfolding read_word
  word_keeps a f = go (eqb f.bad 0) (eqb (pins a % 2) 1) (v.word_ok (pins a))
    where
      go : (b c d : Bool) → Kept f (pick b (pick c (fetched 0 (failed f 3 (pins a) k)) (pick d (fetched (v.word (pins a)) f) (fetched 0 (failed f 2 (pins a) k)))) (fetched 0 f)).flow
      go true true d = (refl, refl)
      go true false true = (refl, refl)
      go true false false = (refl, refl)
      go false c d = (refl, refl)

  long_keeps : (a : ℕ) (f : Flow) → Kept f (read_long v a k f).flow
  unfolding read_long
  long_keeps a f =
      let x = word_keeps a f in
      let y = word_keeps (plus a 2) (read_word v a k f).flow in (y.0 ∙ x.0, y.1 ∙ x.1)

pub room_keeps : (v : View) (a z : ℕ) (f : Flow) → ((room v a z f).pc ≡ f.pc) × ((room v a z f).sr ≡ f.sr)
unfolding room read_sized by_size
room_keeps v a z f = go (for_writing v) (eqb z 0) (eqb z 1)
  where
    go : (w : View) (b c : Bool) → Kept w 1 f (pick b (read_byte w a 1 f) (pick c (read_word w a 1 f) (read_long w a 1 f))).flow
    go w true c = byte_keeps w 1 a f
    go w false true = word_keeps w 1 a f
    go w false false = long_keeps w 1 a f

-- q is what the code lends: all of the memory m, and no ROM
module _ (m : List ℕ) (q : List (List ℕ)) (a : ℕ) (f : Flow) (all : q ≡ whole m []) where
  shows_all : view_of q ≡ all_of m
  shows_all = ap view_of all ∙ whole_shows m [] ∙ without_rom m

  pub room_anywhere : (z : ℕ) (g : Flow) → g ≡ room (view_of q) a z f → g ≡ room (all_of m) a z f
  room_anywhere z g e = e ∙ ap (λ (v : View). room v a z f) shows_all

  pub long_anywhere : (k : ℕ) (w : Fetched) → w ≡ read_long (view_of q) a k f → w ≡ read_long (all_of m) a k f
  long_anywhere k w e = e ∙ ap (λ (v : View). read_long v a k f) shows_all

module _ (v : View) (f : Flow) where
  pub next_word_is : (w : Fetched) (b : ℕ) (g : Flow) → w ≡ read_word v f.pc 18 f → b ≡ plus f.pc 2 → g ≡ with_pc w.flow b → fetched w.value g ≡ next_word v f
  unfolding next_word
  next_word_is w b g p e q = cc

  pub next_long_is : (h l : Fetched) → h ≡ next_word v f → l ≡ next_word v h.flow → fetched (h.value * 65536 + l.value) l.flow ≡ next_long v f
  unfolding next_long
  next_long_is h l p q = cc
