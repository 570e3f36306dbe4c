-- FitsLaws.antt - a block that fits, by its start and its count, has only words that can be written: no word of it need be asked for.
-- fits_when (what fits says); fits_is, span_bound (what the function fits of the crate blocks owes); block_room_when_fits.
-- Uses: bits, bus, plan.
use Rattle.std.proofs.Common.{◌≡◌, ℕ, zero, suc, ◌+◌, ◌*◌, ◌/◌, ◌%◌, ◌^◌, ◌<◌, ◌≤◌, Bool, true, false, ◌&&◌, ◌||◌, eqb, ltb, leb, List, [], ◌∷◌, ◌++◌, length, sym, refl, ap, ◌∙◌, mul-le-mul_right, arith, ltb-true, lt-ltb, eq-eqb, ne_eqb, eqb-true, le-leb, leb-true}
use lib.Count.{ones_in}
use borrow.Author.Tests.{eqb-false}
use Rattle.bits.specs.Bits.{plus, minus}
use Rattle.bits.proofs.BitsLaws.{and_left, and_right}
use Rattle.bits.proofs.OnesLaws.{ones_bound, ones_low}
use Rattle.bus.specs.Bus.{View, part, rom_of, view_of, pins}
use Rattle.plan.specs.declared.Plan.{Plan}
use Rattle.movem.specs.declared.Way.{Way}
use Rattle.movem.specs.Movem.{room_way, mirrored, put_way, block_room}
use Rattle.movem.specs.Whole.{fits}
use Rattle.movem.specs.Order.{part_words, words_along, block_words, writable, all_writable}
use Rattle.movem.proofs.OrderLaws.{Words, block_room_when_writable}

both : {a b : Bool} → a ≡ true → b ≡ true → (a && b) ≡ true
both e g = rw (e, g)

either : {a : Bool} (b : Bool) → a ≡ true → (a || b) ≡ true
either b e = rw e

all_append : (v : View) (us bs : List ℕ) → all_writable v us ≡ true → all_writable v bs ≡ true → all_writable v (us ++ bs) ≡ true
all_append v [] bs h g = g
all_append v (a ∷ us) bs h g =
    both (and_left (writable v a) (all_writable v us) h) (all_append v us bs (and_right (writable v a) (all_writable v us) h) g)

-- a walk up: the next part's place, where b is this one's
next_place : (a b z : ℕ) → pins a ≡ b % 16777216 → pins (plus a z) ≡ (b + z) % 16777216
next_place a b z h = omega arith

-- a walk down over an even number of bytes: where its last part begins, that part's place, and the part below it
last_at : (a c y z : ℕ) → (a + (z + y)) % 2 ^ 32 ≡ (c + z) % 2 ^ 32 → (a + y) % 2 ^ 32 ≡ c % 2 ^ 32
last_at a c y z h = omega arith

last_place : (a c y : ℕ) → (a + y) % 2 ^ 32 ≡ c % 2 ^ 32 → pins a % 2 ≡ 0 → y % 2 ≡ 0 → pins a + y < 16777216 → (pins c % 2 ≡ 0) × (pins c ≡ pins a + y)
last_place a c y h e g l = (omega arith, omega arith)

up_again : (a x : ℕ) → x ≤ 2 ^ 32 → (minus a x + x) % 2 ^ 32 ≡ a % 2 ^ 32
up_again a x h = omega arith

even_times : (n k : ℕ) → n * (2 * (1 + k)) % 2 ≡ 0
even_times n k = omega arith

room_above : (c a y z hi : ℕ) → c ≡ a + y → a + (z + y) ≤ hi → c + z ≤ hi
room_above c a y z hi h l = omega arith

above : (c a y lo : ℕ) → c ≡ a + y → lo ≤ a → lo ≤ c
above c a y lo h l = omega arith

small : (k : ℕ) → k < 2 → 2 * (1 + k) ≤ 4
small k i = omega arith

strictly : (a y k hi : ℕ) → a + (2 * (1 + k) + y) ≤ hi → a + y < hi
strictly a y k hi h = omega arith

shorter : (a y z hi : ℕ) → a + (z + y) ≤ hi → a + y ≤ hi
shorter a y z hi h = omega arith

next_below : (c z : ℕ) → z ≤ 4 → c % 2 ^ 32 ≡ (plus c (minus 0 z) + z) % 2 ^ 32
next_below c z h = omega arith

module _ (q : List (List ℕ)) where
  abbrev lo : ℕ
  lo = length (part q 0)

  abbrev hi : ℕ
  hi = length (part q 1)

  word_writable : (a : ℕ) → pins a % 2 ≡ 0 → lo ≤ pins a → pins a + 2 ≤ hi → writable (view_of q) a ≡ true
  unfolding view_of
  word_writable a e g h =
      both (eq-eqb (pins a % 2) 0 e) (either ((rom_of q).word_free (pins a)) (both (le-leb lo (pins a) g) (lt-ltb (pins a + 1) hi (omega arith))))

  part_writable : (k : ℕ) → k < 2 → (a : ℕ) → pins a % 2 ≡ 0 → lo ≤ pins a → pins a + 2 * (1 + k) ≤ hi → pins a + 2 * (1 + k) ≤ 16777216
      → all_writable (view_of q) (part_words (1 + k) a) ≡ true
  part_writable zero i a e g h t = both (word_writable a e g (omega arith)) refl
  part_writable (suc zero) i a e g h t =
      let n : pins (plus a 2) ≡ pins a + 2 = omega arith in
      both (word_writable a e g (omega arith)) (both (word_writable (plus a 2) (omega arith) (omega arith) (omega arith)) refl)
  part_writable (suc (suc k)) i a e g h t = absurd (omega arith)

  module _ (k : ℕ) (i : k < 2) where
    -- n parts upward from a, whose place is b
    up_writable : (n a b : ℕ) → pins a ≡ b % 16777216 → b % 2 ≡ 0 → lo ≤ b → b + n * (2 * (1 + k)) ≤ hi → b + n * (2 * (1 + k)) ≤ 16777216
        → all_writable (view_of q) (words_along (1 + k) (2 * (1 + k)) a n) ≡ true
    up_writable zero a b d e g h t = refl
    up_writable (suc n) a b d e g h t =
        let y = n * (2 * (1 + k)) in
        let s : suc n * (2 * (1 + k)) ≡ 2 * (1 + k) + y = omega arith in
        let l : b + (2 * (1 + k) + y) ≤ hi = rw s at h in
        let u : b + (2 * (1 + k) + y) ≤ 16777216 = rw s at t in
        let here : pins a ≡ b = omega (arith, d, u) in
        all_append (view_of q) (part_words (1 + k) a) (words_along (1 + k) (2 * (1 + k)) (plus a (2 * (1 + k))) n)
        (part_writable k i a (omega (arith, here, e)) (omega (arith, here, g)) (omega (arith, here, l)) (omega (arith, here, u)))
        (up_writable n (plus a (2 * (1 + k))) (b + 2 * (1 + k)) (next_place a b (2 * (1 + k)) d) (omega (arith, e)) (omega (arith, g)) (omega (arith, l)) (omega (arith, u)))

    -- n parts downward from c, of which the lowest is at a
    down_writable : (n a c : ℕ) → pins a % 2 ≡ 0 → lo ≤ pins a → pins a + n * (2 * (1 + k)) ≤ hi → pins a + n * (2 * (1 + k)) ≤ 16777216
        → (a + n * (2 * (1 + k))) % 2 ^ 32 ≡ (c + 2 * (1 + k)) % 2 ^ 32 → all_writable (view_of q) (words_along (1 + k) (minus 0 (2 * (1 + k))) c n) ≡ true
    down_writable zero a c e f h t g = refl
    down_writable (suc n) a c e f h t g =
        let y = n * (2 * (1 + k)) in
        let s : suc n * (2 * (1 + k)) ≡ 2 * (1 + k) + y = omega arith in
        let l : pins a + (2 * (1 + k) + y) ≤ hi = rw s at h in
        let u : pins a + (2 * (1 + k) + y) ≤ 16777216 = rw s at t in
        let at = last_at a c y (2 * (1 + k)) (rw s at g) in
        let p = last_place a c y at e (even_times n k) (strictly (pins a) y k 16777216 u) in
        all_append (view_of q) (part_words (1 + k) c) (words_along (1 + k) (minus 0 (2 * (1 + k))) (plus c (minus 0 (2 * (1 + k)))) n)
        (part_writable k i c p.0 (above (pins c) (pins a) y lo p.1 f) (room_above (pins c) (pins a) y (2 * (1 + k)) hi p.1 l)
        (room_above (pins c) (pins a) y (2 * (1 + k)) 16777216 p.1 u))
        (down_writable n a (plus c (minus 0 (2 * (1 + k)))) e f (shorter (pins a) y (2 * (1 + k)) hi l) (shorter (pins a) y (2 * (1 + k)) 16777216 u) (at ∙ next_below c (2 * (1 + k)) (small k i)))

-- the ways of a block of words: upward, or downward from A7
module _ (p : Plan) (h : Words p) where
  pub way_up : p.write / 2 ≡ 2
      → put_way p ≡ record { size = 1 + p.write % 2; list = p.value % 65536; start = p.at; step = 2 * (1 + p.write % 2) }
  unfolding put_way room_way
  way_up e = rw (ne_eqb (p.write / 2) 3 (omega arith), eq-eqb (p.write / 2) 2 e)

  pub way_down : p.write / 2 ≡ 3
      → put_way p ≡ record {
        size = 1 + p.write % 2;
        list = mirrored p.value;
        start = minus p.at (ones_in 16 p.value * 2 * (1 + p.write % 2));
        step = 2 * (1 + p.write % 2);
      }
  unfolding put_way
  way_down e = rw (eq-eqb (p.write / 2) 3 e)

module _ (p : Plan) (h : Words p) where
  pub way_sizes : ((put_way p).size ≡ 1 + p.write % 2) × ((put_way p).step ≡ 2 * (1 + p.write % 2))
  way_sizes = go (eqb (p.write / 2) 2) refl
    where
      go : (b : Bool) → eqb (p.write / 2) 2 ≡ b → ((put_way p).size ≡ 1 + p.write % 2) × ((put_way p).step ≡ 2 * (1 + p.write % 2))
      go true e = let w = way_up p h (eqb-true (p.write / 2) 2 e) in (ap (λ (x : Way). x.size) w, ap (λ (x : Way). x.step) w)
      go false e =
          let w = way_down p h (omega (arith, eqb-false (p.write / 2) 2 e)) in (ap (λ (x : Way). x.size) w, ap (λ (x : Way). x.step) w)

-- what fits says
pub record FitsIn (lo hi : ℕ) (p : Plan) : Type 0 where
  pub words : Words p
  pub even : (put_way p).start % 2 ≡ 0
  pub from : lo ≤ pins (put_way p).start
  pub inside : pins (put_way p).start + ones_in 16 p.value * (put_way p).step ≤ hi
  pub no_wrap : pins (put_way p).start + ones_in 16 p.value * (put_way p).step ≤ 16777216

pub fits_when : (lo hi : ℕ) (p : Plan) → fits lo hi p ≡ true → FitsIn lo hi p
unfolding fits
fits_when lo hi p h =
    let w = put_way p in
    let ws = leb 4 p.write && ltb p.write 8 in
    let e = eqb (w.start % 2) 0 in
    let f = leb lo (pins w.start) in
    let end = pins w.start + ones_in 16 p.value * w.step in
    let t = and_left (((ws && e) && f) && leb end hi) (leb end 16777216) h in
    let g = and_left ((ws && e) && f) (leb end hi) t in
    let l = and_left (ws && e) f g in
    record {
      words = (
        leb-true 4 p.write (and_left (leb 4 p.write) (ltb p.write 8) (and_left ws e l)),
        ltb-true p.write 8 (and_right (leb 4 p.write) (ltb p.write 8) (and_left ws e l)),
      );
      even = eqb-true (w.start % 2) 0 (and_right ws e l);
      from = leb-true lo _ (and_right (ws && e) f g);
      inside = leb-true _ hi (and_right ((ws && e) && f) (leb end hi) t);
      no_wrap = leb-true _ 16777216 (and_right (((ws && e) && f) && leb end hi) (leb end 16777216) h);
    }

module _ (q : List (List ℕ)) (p : Plan) (f : FitsIn (length (part q 0)) (length (part q 1)) p) where
  fitting_up : p.write / 2 ≡ 2 → all_writable (view_of q) (block_words p) ≡ true
  unfolding block_words room_way
  fitting_up e =
      let w = way_up p f.words e in
      let o = ones_low 16 p.value in
      rw (eq-eqb (p.write / 2) 2 e, o)
      (up_writable q (p.write % 2) (omega arith) (ones_in 16 p.value) p.at (pins p.at) (omega arith)
      (omega (arith, rw w at f.even)) (rw w at f.from) (rw w at f.inside) (rw w at f.no_wrap))

  fitting_down : p.write / 2 ≡ 3 → all_writable (view_of q) (block_words p) ≡ true
  unfolding block_words room_way
  fitting_down e =
      let w = way_down p f.words e in
      let o = ones_low 16 p.value in
      let z = 2 * (1 + p.write % 2) in
      let n = ones_in 16 p.value in
      let few : n * (1 + p.write % 2) ≤ 16 * (1 + p.write % 2) = mul-le-mul_right (1 + p.write % 2) (ones_bound 16 p.value) in
      let all : n * 2 * (1 + p.write % 2) ≡ n * z = omega arith in
      let up = up_again p.at (n * z) (omega (arith, few)) ∙ sym (up_again p.at z (omega arith)) in
      let meet = ap (λ (x : ℕ). (x + n * z) % 2 ^ 32) (ap (minus p.at) all) ∙ up in
      rw (ne_eqb (p.write / 2) 2 (omega arith), eq-eqb (p.write / 2) 3 e, o)
      (down_writable q (p.write % 2) (omega arith) n (minus p.at (n * 2 * (1 + p.write % 2))) (minus p.at z)
      (omega (arith, rw w at f.even)) (rw w at f.from) (rw w at f.inside) (rw w at f.no_wrap) meet)

-- ---- what the function owes
step_bound : (p : Plan) → (put_way p).step ≤ 4
unfolding put_way room_way
step_bound p = go (eqb (p.write / 2) 3) (eqb (p.write / 2) 2) refl refl
  where
    go : (b c : Bool) → eqb (p.write / 2) 3 ≡ b → eqb (p.write / 2) 2 ≡ c → (put_way p).step ≤ 4
    go true c e g = rw e (omega arith)
    go false true e g = rw (e, g) (omega arith)
    go false false e g = rw (e, g) (omega arith)

pub span_bound : (p : Plan) (w : Way) (n : ℕ) → w ≡ put_way p → (n ≡ ones_in 16 p.value) × (n ≤ 16) → n * w.step ≤ 64
span_bound p w n e h =
    let s : w.step ≤ 4 = rw e (step_bound p) in
    let b : n * w.step ≤ 16 * w.step = mul-le-mul_right w.step h.1 in omega arith

pub fits_is : (lo hi : ℕ) (p : Plan) (w : Way) (n : ℕ) → w ≡ put_way p → (n ≡ ones_in 16 p.value) × (n ≤ 16)
    → (((((leb 4 p.write && ltb p.write 8) && eqb (w.start % 2) 0) && leb lo (pins w.start)) && leb (pins w.start + n * w.step) hi) && leb (pins w.start + n * w.step) 16777216) ≡ fits lo hi p
unfolding fits
fits_is lo hi p w n e h = let q = h.0 in cc

-- a block that fits: no write of it meets a fault
pub block_room_when_fits : (q : List (List ℕ)) (p : Plan) → fits (length (part q 0)) (length (part q 1)) p ≡ true → block_room (view_of q) p ≡ p.flow
block_room_when_fits q p h =
    let f = fits_when (length (part q 0)) (length (part q 1)) p h in
    block_room_when_writable (view_of q) p f.words (go f (eqb (p.write / 2) 2) refl)
  where
    go : FitsIn (length (part q 0)) (length (part q 1)) p → (b : Bool) → eqb (p.write / 2) 2 ≡ b → all_writable (view_of q) (block_words p) ≡ true
    go f true e = fitting_up q p f (eqb-true (p.write / 2) 2 e)
    go f false e = fitting_down q p f (omega (arith, f.words, eqb-false (p.write / 2) 2 e))

pub room_whole : (q : List (List ℕ)) (p : Plan) (lo : ℕ) (m : List ℕ) (b : Bool) → lo ≡ length (part q 0) → m ≡ part q 1 → b ≡ fits lo (length m) p → b ≡ true
    → p.flow ≡ block_room (view_of q) p
room_whole q p lo m b d g e t = sym (block_room_when_fits q p (ap (λ (x : ℕ). fits x (length (part q 1)) p) (sym d) ∙ ap (λ (x : List ℕ). fits lo (length x) p) (sym g) ∙ sym e ∙ t))
