-- OrderLaws.antt - the room of a block is asked word by word in 003's order, specs/Order.antt: its first word that cannot be written is reported.
-- block_room_when_writable, first_failing_word: the theorems.
-- Uses: bits, bus, plan.
use Rattle.std.proofs.Common.{◌≡◌, ℕ, zero, suc, ◌+◌, ◌*◌, ◌/◌, ◌%◌, ◌<◌, ◌≤◌, Bool, true, false, eqb, List, [], ◌∷◌, ◌++◌, sym, refl, ap, ◌∙◌, arith, eq-eqb, ne_eqb, eqb-true}
use lib.Count.{ones_in}
use borrow.Author.Tests.{eqb-false}
use Rattle.codes.specs.Codes.{DataWrite}
use Rattle.bits.specs.Bits.{pick, iter, by_size, plus}
use Rattle.bits.proofs.BitsLaws.{and_left, and_right}
use Rattle.bus.specs.declared.Flow.{Flow}
use Rattle.bus.specs.Bus.{View, pins, information, read_word, read_long, read_sized, room}
use Rattle.plan.specs.declared.Plan.{Plan}
use Rattle.movem.specs.declared.Way.{Way}
use Rattle.movem.specs.declared.Spot.{Spot}
use Rattle.movem.specs.Movem.{listed, first_spot, next_spot, room_way, room_one, block_room}
use Rattle.movem.specs.Order.{part_words, words_along, block_words, writable, all_writable, unwritten}

-- the flow after words are asked for, one after the other
abbrev asked : View → List ℕ → Flow → Flow
asked v [] f = f
asked v (a ∷ us) f = asked v us (room v a 1 f)

asked_append : (v : View) (us bs : List ℕ) (f : Flow) → asked v (us ++ bs) f ≡ asked v bs (asked v us f)
asked_append v [] bs f = refl
asked_append v (a ∷ us) bs f = asked_append v us bs (room v a 1 f)

asked_part : (k : ℕ) → k < 2 → (v : View) (a : ℕ) (f : Flow) → asked v (part_words (1 + k) a) f ≡ room v a (1 + k) f
unfolding room read_sized read_long by_size
asked_part zero i v a f = refl
asked_part (suc zero) i v a f = refl
asked_part (suc (suc k)) i v a f = absurd (omega arith)

-- ---- a walk asks for the words of its list's ones
module _ (v : View) (k : ℕ) (i : k < 2) (by : ℕ) where
  one_turn : (b : Bool) (x c a : ℕ) (f : Flow) → x < 2 → eqb x 1 ≡ b
      → asked v (words_along (1 + k) by (pick b (plus a by) a) c) (pick b (room v a (1 + k) f) f) ≡ asked v (words_along (1 + k) by a (x + c)) f
  one_turn true x c a f h e =
      let one = eqb-true x 1 e in
      let s : x + c ≡ suc c = omega arith in
      ap (asked v (words_along (1 + k) by (plus a by) c)) (sym (asked_part k i v a f))
      ∙ sym (asked_append v (part_words (1 + k) a) (words_along (1 + k) by (plus a by) c) f)
      ∙ ap (λ (n : ℕ). asked v (words_along (1 + k) by a n) f) (sym s)
  one_turn false x c a f h e =
      let none = eqb-false x 1 e in
      let s : x + c ≡ c = omega arith in
      ap (λ (n : ℕ). asked v (words_along (1 + k) by a n) f) (sym s)

  walk_asks : (w : Way) → w.size ≡ 1 + k → w.step ≡ by → (n : ℕ) (d : Spot)
      → (iter (room_one v w) n d).flow ≡ asked v (words_along (1 + k) by d.at (ones_in n d.list)) d.flow
  unfolding iter room_one next_spot ones_in
  walk_asks w e g zero d = refl
  walk_asks w e g (suc n) d =
      walk_asks w e g n (room_one v w d)
      ∙ rw (e, g) (one_turn (listed d) (d.list % 2) (ones_in n (d.list / 2)) d.at d.flow (omega arith) refl)

-- a block of words: MOVEM's
abbrev pub Words : Plan → Type 0
Words p = (4 ≤ p.write) × (p.write < 8)

room_size : (p : Plan) → Words p → (room_way p).size ≡ 1 + p.write % 2
unfolding room_way
room_size p h = go (eqb (p.write / 2) 2) (eqb (p.write / 2) 3) refl refl
  where
    go : (b c : Bool) → eqb (p.write / 2) 2 ≡ b → eqb (p.write / 2) 3 ≡ c → (room_way p).size ≡ 1 + p.write % 2
    go true c e g = rw e
    go false true e g = rw (e, g)
    go false false e g = absurd (omega (arith, h, eqb-false (p.write / 2) 2 e, eqb-false (p.write / 2) 3 g))

block_asks : (v : View) (p : Plan) → Words p → block_room v p ≡ asked v (block_words p) p.flow
unfolding block_room block_words
block_asks v p h =
    let w = room_way p in
    let e = room_size p h in
    walk_asks v (p.write % 2) (omega arith) w.step w e refl 16 (first_spot w p.flow)
    ∙ ap (λ (z : ℕ). asked v (words_along z w.step w.start (ones_in 16 w.list)) p.flow) (sym e)

-- ---- one word
room_when_writable : (v : View) (a : ℕ) (f : Flow) → writable v a ≡ true → room v a 1 f ≡ f
unfolding room read_sized read_word by_size
room_when_writable v a f h =
    let even = eqb-true (pins a % 2) 0 (and_left (eqb (pins a % 2) 0) (v.word_free (pins a)) h) in
    go (eqb f.bad 0) refl (ne_eqb (pins a % 2) 1 (omega arith)) (and_right (eqb (pins a % 2) 0) (v.word_free (pins a)) h)
  where
    go : (b : Bool) → eqb f.bad 0 ≡ b → eqb (pins a % 2) 1 ≡ false → v.word_free (pins a) ≡ true → room v a 1 f ≡ f
    go true e odd there = cc
    go false e odd there = cc

room_when_failed : (v : View) (a : ℕ) (f : Flow) → eqb f.bad 0 ≡ false → room v a 1 f ≡ f
unfolding room read_sized read_word by_size
room_when_failed v a f h = cc

room_when_unwritable : (v : View) (a : ℕ) (f : Flow) → f.bad ≡ 0 → writable v a ≡ false → room v a 1 f ≡ unwritten f a
unfolding room read_sized read_word by_size
room_when_unwritable v a f h n = go (eqb (pins a % 2) 1) refl (eq-eqb f.bad 0 h)
  where
    go : (b : Bool) → eqb (pins a % 2) 1 ≡ b → eqb f.bad 0 ≡ true → room v a 1 f ≡ unwritten f a
    go true e clean = cc
    go false e clean =
        let even : eqb (pins a % 2) 0 ≡ true = eq-eqb (pins a % 2) 0 (omega (arith, eqb-false (pins a % 2) 1 e)) in
        let out : v.word_free (pins a) ≡ false = rw even at n in cc

-- ---- all of them
asked_when_writable : (v : View) (us : List ℕ) (f : Flow) → all_writable v us ≡ true → asked v us f ≡ f
asked_when_writable v [] f h = refl
asked_when_writable v (a ∷ us) f h =
    ap (asked v us) (room_when_writable v a f (and_left (writable v a) (all_writable v us) h))
    ∙ asked_when_writable v us f (and_right (writable v a) (all_writable v us) h)

asked_when_failed : (v : View) (us : List ℕ) (f : Flow) → eqb f.bad 0 ≡ false → asked v us f ≡ f
asked_when_failed v [] f h = refl
asked_when_failed v (a ∷ us) f h = ap (asked v us) (room_when_failed v a f h) ∙ asked_when_failed v us f h

-- a fault is never 0
fault_some : (x y : ℕ) (b : Bool) → eqb (x * 256 + y * 4 + pick b 3 2 % 4) 0 ≡ false
fault_some x y true = ne_eqb (x * 256 + y * 4 + 3 % 4) 0 (omega arith)
fault_some x y false = ne_eqb (x * 256 + y * 4 + 2 % 4) 0 (omega arith)

-- where every word can be written there is room for the block
pub block_room_when_writable : (v : View) (p : Plan) → Words p → all_writable v (block_words p) ≡ true → block_room v p ≡ p.flow
block_room_when_writable v p h w = block_asks v p h ∙ asked_when_writable v (block_words p) p.flow w

-- else the first word in 003's order that cannot is the one whose fault is reported
pub first_failing_word : (v : View) (p : Plan) → Words p → p.flow.bad ≡ 0 → (us : List ℕ) (a : ℕ) (bs : List ℕ) → block_words p ≡ us ++ (a ∷ bs)
    → all_writable v us ≡ true → writable v a ≡ false → block_room v p ≡ unwritten p.flow a
first_failing_word v p h clean us a bs e before at =
    block_asks v p h
    ∙ ap (λ (l : List ℕ). asked v l p.flow) e
    ∙ asked_append v us (a ∷ bs) p.flow
    ∙ ap (asked v (a ∷ bs)) (asked_when_writable v us p.flow before)
    ∙ ap (asked v bs) (room_when_unwritable v a p.flow clean at)
    ∙ asked_when_failed v bs (unwritten p.flow a) (fault_some (pins a % 16777216) (information DataWrite p.flow.sr) (eqb (pins a % 2) 1))
