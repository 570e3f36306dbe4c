-- ReachLaws.antt - the four parts show exactly what a state may touch.
-- up_to_short, up_to_all, up_to_none; shows_all, shows_window (the returns of lent).
-- Uses: bits, bus.
use Prim.Native.Nat.{ℕ, zero, suc, ◌+◌, ◌-◌, ◌<◌, ◌≤◌}
use native.Mathlib.Omega.{arith}
use mathlib.Core.Path.{◌≡◌, refl, sym, ap, ◌∙◌, subst}
use mathlib.Core.Bool.{Bool, true, false, ◌&&◌, ◌||◌}
use mathlib.Core.List.{List, [], ◌∷◌}
use lib.ListN.{length, get_or, take, drop}
use lib.Seq.{length-take-le}
use lib.Dec.{ltb, leb}
use borrow.Author.Tests.{leb-true, leb-false, ltb-true, ltb-false, le-leb, lt-ltb}
use Rattle.codes.specs.Codes.{RomStart}
use Rattle.bits.specs.Bits.{pick}
use Rattle.bits.proofs.BitsLaws.{and_left, and_right, and_both, same_test}
use Rattle.bus.specs.declared.Window.{Window}
use Rattle.bus.specs.Bus.{View, Board, board_of, two_at, all_of, as_rom, beside, allowed, fenced, seen_by, byte_within, word_within, between, rom_of, view_of, whole}
use Rattle.bus.proofs.BusLaws.{whole_shows}
use Rattle.reach.specs.Reach.{up_to}

-- ---- how far
module _ (a len : ℕ) where
  pub up_to_short : ltb a len ≡ true → a ≡ up_to a len
  unfolding up_to
  up_to_short h = cc

  pub up_to_all : ltb a len ≡ false → len ≡ up_to a len
  unfolding up_to
  up_to_all h = cc

up_by_none : (len : ℕ) (b : Bool) → ltb 0 len ≡ b → 0 ≡ pick b 0 len
up_by_none len true h = refl
up_by_none len false h = let g = ltb-false 0 len h in omega (arith, g)

pub up_to_none : (a len : ℕ) → leb RomStart a ≡ false → 0 ≡ up_to (a - RomStart) len
unfolding up_to
up_to_none a len h =
    let z : a - RomStart ≡ 0 = omega (arith, leb-false RomStart a h) in
    up_by_none len (ltb 0 len) refl ∙ ap (λ (i : ℕ). pick (ltb i len) i len) (sym z)

-- the less of the two
record Less (a len u : ℕ) : Type 0 where
  pub all : u ≤ len
  pub near : u ≤ a
  pub below : (c : ℕ) → c < len → c < a → c < u
  pub above : (c : ℕ) → u ≤ c → c < len → a ≤ c

less_by : (a len : ℕ) (b : Bool) → ltb a len ≡ b → Less a len (pick b a len)
less_by a len true h =
    let g = ltb-true a len h in
    record { all = omega (arith, g); near = omega arith; below = λ c p q. q; above = λ c p q. p }
less_by a len false h =
    let g = ltb-false a len h in
    record { all = omega arith; near = g; below = λ c p q. p; above = λ c p q. omega (arith, p, q) }

up_to_is : (a len : ℕ) → Less a len (up_to a len)
unfolding up_to
up_to_is a len = less_by a len (ltb a len) refl

-- ---- tests
-- a place of s bytes, the last at top; the window from lo to hi
window_test : (lo hi n u v a top s : ℕ) → Less lo n u → Less hi n v → top + 1 ≡ a + s → a ≤ top
    → (leb u a && ltb top v) ≡ ((leb lo a && leb (a + s) hi) && ltb top n)
window_test lo hi n u v a top s p q e l =
    same_test (leb u a && ltb top v) ((leb lo a && leb (a + s) hi) && ltb top n)
    (λ t.
    let x = leb-true u a (and_left (leb u a) (ltb top v) t) in
    let y = ltb-true top v (and_right (leb u a) (ltb top v) t) in
    let z = p.above a x (omega (arith, y, q.all, l)) in
    and_both (leb lo a && leb (a + s) hi) (ltb top n)
    (and_both (leb lo a) (leb (a + s) hi) (le-leb lo a z) (le-leb (a + s) hi (omega (arith, y, q.near, e))))
    (lt-ltb top n (omega (arith, y, q.all))))
    (λ t.
    let g = and_left (leb lo a && leb (a + s) hi) (ltb top n) t in
    let x = leb-true lo a (and_left (leb lo a) (leb (a + s) hi) g) in
    let y = leb-true (a + s) hi (and_right (leb lo a) (leb (a + s) hi) g) in
    let z = ltb-true top n (and_right (leb lo a && leb (a + s) hi) (ltb top n) t) in
    and_both (leb u a) (ltb top v) (le-leb u a (omega (arith, p.near, x)))
    (lt-ltb top v (q.below top z (omega (arith, y, e)))))

-- ---- the parts
get_d_take : (m : List ℕ) (k a : ℕ) → a < k → get_or (take k m) a 0 ≡ get_or m a 0
get_d_take [] zero a h = refl
get_d_take [] (suc k) a h = refl
get_d_take (x ∷ m) zero a h = absurd (omega (arith, h))
get_d_take (x ∷ m) (suc k) zero h = refl
get_d_take (x ∷ m) (suc k) (suc a) h = get_d_take m k a (omega (arith, h))

-- w is what the parts ask, b what memory asks, a what the window asks
folded : (a b w : Bool) (x y : ℕ) → w ≡ (a && b) → (w ≡ true → y ≡ x) → pick w y 0 ≡ pick a (pick b x 0) 0
folded true true w x y p h = cc (h p)
folded true false w x y p h = cc
folded false b w x y p h = cc

module _ (win : Window) (m : List ℕ) where
  abbrev lo : ℕ
  lo = up_to win.lo (length m)

  abbrev hi : ℕ
  hi = up_to win.hi (length m)

  low_length : length (take lo m) ≡ lo
  low_length = length-take-le lo m (up_to_is win.lo (length m)).all

  high_length : length (take hi m) ≡ hi
  high_length = length-take-le hi m (up_to_is win.hi (length m)).all

  within : (a top s : ℕ) → top + 1 ≡ a + s → a ≤ top
      → (leb (length (take lo m)) a && ltb top (length (take hi m))) ≡ (allowed false win a s && ltb top (length m))
  within a top s e l =
      cc (
        low_length,
        high_length,
        window_test win.lo win.hi (length m) lo hi a top s (up_to_is win.lo (length m)) (up_to_is win.hi (length m)) e l,
      )

  byte_test : (a : ℕ) → byte_within (take lo m) (take hi m) a ≡ (allowed false win a 1 && ltb a (length m))
  byte_test a = within a a 1 refl (omega arith)

  word_test : (a : ℕ) → word_within (take lo m) (take hi m) a ≡ (allowed false win a 2 && ltb (a + 1) (length m))
  word_test a = within a (a + 1) 2 (omega arith) (omega arith)

  -- a place that the parts show is one of the second part
  at_high : (a top : ℕ) → (leb (length (take lo m)) a && ltb top (length (take hi m))) ≡ true → top < hi
  at_high a top t =
      subst (λ (n : ℕ). top < n) high_length
      (ltb-true top (length (take hi m)) (and_right (leb (length (take lo m)) a) (ltb top (length (take hi m))) t))

  same_byte : (a : ℕ) → pick (byte_within (take lo m) (take hi m) a) (get_or (take hi m) a 0) 0 ≡ pick (allowed false win a 1) (pick (ltb a (length m)) (get_or m a 0) 0) 0
  same_byte a =
      folded (allowed false win a 1) (ltb a (length m)) (byte_within (take lo m) (take hi m) a) (get_or m a 0) (get_or (take hi m) a 0) (byte_test a)
      (λ t. get_d_take m hi a (at_high a a t))

  same_word : (a : ℕ) → pick (word_within (take lo m) (take hi m) a) (two_at (take hi m) a) 0 ≡ pick (allowed false win a 2) (pick (ltb (a + 1) (length m)) (two_at m a) 0) 0
  same_word a =
      folded (allowed false win a 2) (ltb (a + 1) (length m)) (word_within (take lo m) (take hi m) a) (two_at m a) (two_at (take hi m) a) (word_test a)
      (λ t. let g = at_high a (a + 1) t in cc (get_d_take m hi a (omega (arith, g)), get_d_take m hi (a + 1) g))

  -- the two parts of m that are lent show what lies in the window
  between_shows : between (take lo m) (take hi m) ≡ fenced false win (all_of m)
  unfolding all_of
  between_shows =
      λ j.
      record {
        byte_ok = λ a. byte_test a j;
        word_ok = λ a. word_test a j;
        byte = λ a. same_byte a j;
        word = λ a. same_word a j;
        byte_free = λ a. byte_test a j;
        word_free = λ a. word_test a j;
      }

-- ---- the same in the ROM: its places are addresses less its first, and so is the window's
abbrev past_start : Window → Window
past_start win = record { lo = win.lo - RomStart; hi = win.hi - RomStart }

-- a place of one byte at least
place_test : (win : Window) (a s : ℕ) → leb RomStart a ≡ true → allowed false (past_start win) (a - RomStart) (1 + s) ≡ allowed false win a (1 + s)
place_test win a s t =
    let g = leb-true RomStart a t in
    same_test (allowed false (past_start win) (a - RomStart) (1 + s)) (allowed false win a (1 + s))
    (λ h.
    let x = leb-true (win.lo - RomStart) (a - RomStart) (and_left (leb (win.lo - RomStart) (a - RomStart)) (leb (a - RomStart + (1 + s)) (win.hi - RomStart)) h) in
    let y = leb-true (a - RomStart + (1 + s)) (win.hi - RomStart) (and_right (leb (win.lo - RomStart) (a - RomStart)) (leb (a - RomStart + (1 + s)) (win.hi - RomStart)) h) in
    and_both (leb win.lo a) (leb (a + (1 + s)) win.hi) (le-leb win.lo a (omega (arith, x, g))) (le-leb (a + (1 + s)) win.hi (omega (arith, y, g))))
    (λ h.
    let x = leb-true win.lo a (and_left (leb win.lo a) (leb (a + (1 + s)) win.hi) h) in
    let y = leb-true (a + (1 + s)) win.hi (and_right (leb win.lo a) (leb (a + (1 + s)) win.hi) h) in
    and_both (leb (win.lo - RomStart) (a - RomStart)) (leb (a - RomStart + (1 + s)) (win.hi - RomStart))
    (le-leb (win.lo - RomStart) (a - RomStart) (omega (arith, x, g)))
    (le-leb (a - RomStart + (1 + s)) (win.hi - RomStart) (omega (arith, y, g))))

-- r: the address is one of the ROM's; c and d: what the two windows ask
rom_asks : (r c d x : Bool) → (r ≡ true → c ≡ d) → (r && (c && x)) ≡ (d && (r && x))
rom_asks true c d x h = cc (h refl)
rom_asks false c true x h = refl
rom_asks false c false x h = refl

rom_has : (r c d : Bool) (x : ℕ) → (r ≡ true → c ≡ d) → pick r (pick c x 0) 0 ≡ pick d (pick r x 0) 0
rom_has true c d x h = cc (h refl)
rom_has false c true x h = refl
rom_has false c false x h = refl

none_free : (d : Bool) → false ≡ (d && false)
none_free true = refl
none_free false = refl

rom_fenced : (win : Window) (v : View) → as_rom (fenced false (past_start win) v) ≡ fenced false win (as_rom v)
rom_fenced win v =
    λ j.
    record {
      byte_ok = λ a. rom_asks (leb RomStart a) (allowed false (past_start win) (a - RomStart) 1) (allowed false win a 1) (v.byte_ok (a - RomStart)) (place_test win a 0) j;
      word_ok = λ a. rom_asks (leb RomStart a) (allowed false (past_start win) (a - RomStart) 2) (allowed false win a 2) (v.word_ok (a - RomStart)) (place_test win a 1) j;
      byte = λ a. rom_has (leb RomStart a) (allowed false (past_start win) (a - RomStart) 1) (allowed false win a 1) (v.byte (a - RomStart)) (place_test win a 0) j;
      word = λ a. rom_has (leb RomStart a) (allowed false (past_start win) (a - RomStart) 2) (allowed false win a 2) (v.word (a - RomStart)) (place_test win a 1) j;
      byte_free = λ a. none_free (allowed false win a 1) j;
      word_free = λ a. none_free (allowed false win a 2) j;
    }

-- ---- a fence around two views is one around each
spread : (d x y : Bool) → ((d && x) || (d && y)) ≡ (d && (x || y))
spread true x y = refl
spread false x y = refl

spread_value : (d x : Bool) (y z : ℕ) → pick (d && x) (pick d y 0) (pick d z 0) ≡ pick d (pick x y z) 0
spread_value true x y z = refl
spread_value false x y z = refl

beside_fenced : (sup : Bool) (win : Window) (v u : View) → beside (fenced sup win v) (fenced sup win u) ≡ fenced sup win (beside v u)
beside_fenced sup win v u =
    λ j.
    record {
      byte_ok = λ a. spread (allowed sup win a 1) (v.byte_ok a) (u.byte_ok a) j;
      word_ok = λ a. spread (allowed sup win a 2) (v.word_ok a) (u.word_ok a) j;
      byte = λ a. spread_value (allowed sup win a 1) (v.byte_ok a) (v.byte a) (u.byte a) j;
      word = λ a. spread_value (allowed sup win a 2) (v.word_ok a) (v.word a) (u.word a) j;
      byte_free = λ a. spread (allowed sup win a 1) (v.byte_free a) (u.byte_free a) j;
      word_free = λ a. spread (allowed sup win a 2) (v.word_free a) (u.word_free a) j;
    }

-- ---- the returns
module _ (sup : Bool) (win : Window) (m rom : List ℕ) where
  all_seen : beside (all_of m) (as_rom (all_of rom)) ≡ seen_by true (board_of win rom) m
  unfolding seen_by
  all_seen = refl

  pub shows_all : (q : List (List ℕ)) → sup ≡ true → q ≡ whole m rom → view_of q ≡ seen_by sup (board_of win rom) m
  shows_all q s e = ap view_of e ∙ whole_shows m rom ∙ all_seen ∙ ap (λ (b : Bool). seen_by b (board_of win rom) m) (sym s)

  -- a part as the code makes it, from 0 on
  abbrev from_start : List ℕ → ℕ → List ℕ
  from_start l k = take (k - 0) (drop 0 l)

  from_start_is : (l : List ℕ) (k : ℕ) → from_start l k ≡ take k l
  from_start_is l k = ap (λ (n : ℕ). take n l) (let z : k - 0 ≡ k = omega arith in z)

  parts_show : (x y : View) → x ≡ fenced false win (all_of m) → y ≡ fenced false (past_start win) (all_of rom)
      → beside x (as_rom y) ≡ seen_by false (board_of win rom) m
  unfolding seen_by
  parts_show x y e d =
      (λ j. beside (e j) (as_rom (d j)))
      ∙ ap (λ (v : View). beside (fenced false win (all_of m)) v) (rom_fenced win (all_of rom))
      ∙ beside_fenced false win (all_of m) (as_rom (all_of rom))

  parts_are : (a b c d : List ℕ) → view_of (a ∷ b ∷ c ∷ d ∷ []) ≡ beside (between a b) (as_rom (between c d))
  unfolding view_of rom_of
  parts_are a b c d = refl

  pub shows_window : (l h i k : ℕ) → sup ≡ false → l ≡ up_to win.lo (length m) → h ≡ up_to win.hi (length m)
      → i ≡ up_to (win.lo - RomStart) (length rom) → k ≡ up_to (win.hi - RomStart) (length rom)
      → view_of (from_start m l ∷ from_start m h ∷ from_start rom i ∷ from_start rom k ∷ []) ≡ seen_by sup (board_of win rom) m
  shows_window l h i k s e d c b =
      let x : from_start m l ≡ take (lo win m) m = from_start_is m l ∙ ap (λ (n : ℕ). take n m) e in
      let y : from_start m h ≡ take (hi win m) m = from_start_is m h ∙ ap (λ (n : ℕ). take n m) d in
      let u : from_start rom i ≡ take (lo (past_start win) rom) rom = from_start_is rom i ∙ ap (λ (n : ℕ). take n rom) c in
      let w : from_start rom k ≡ take (hi (past_start win) rom) rom = from_start_is rom k ∙ ap (λ (n : ℕ). take n rom) b in
      parts_are (from_start m l) (from_start m h) (from_start rom i) (from_start rom k)
      ∙ parts_show (between (from_start m l) (from_start m h)) (between (from_start rom i) (from_start rom k))
      ((λ j. between (x j) (y j)) ∙ between_shows win m) ((λ j. between (u j) (w j)) ∙ between_shows (past_start win) rom)
      ∙ ap (λ (b : Bool). seen_by b (board_of win rom) m) (sym s)
