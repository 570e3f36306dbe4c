-- WriteLaws.antt - the same write keeps two memories the same in the window; a write for which user state has room leaves what lies outside.
-- same_written; plan_out: the theorems. MOVEM to -(An) goes by 003's own order, in which its room is asked (block_put_is_down of movem).
-- Uses: bits, bus, plan, movem, step.  Source: [K7], [K10].
use Prim.Native.Nat.{ℕ, zero, suc, ◌+◌, ◌-◌, ◌%◌, ◌/◌, ◌<◌, ◌≤◌}
use native.Mathlib.Omega.{arith}
use mathlib.Core.Path.{◌≡◌, refl, ap, ◌∙◌}
use mathlib.Core.Bool.{Bool, true, false, ◌||◌}
use mathlib.Core.List.{List}
use lib.ListN.{length, get_or, set, length-set}
use lib.Seq.{set_out, get_or-set_same, get_or-set_other}
use lib.Dec.{ltb, eqb}
use borrow.Author.Tests.{ltb-true, ltb-false, eqb-true, eqb-false, ne_eqb}
use Rattle.codes.specs.Codes.{NoWrite, BusError, AddressError, DataWrite, Downward}
use Rattle.bits.specs.Bits.{pick, iter, plus, by_size}
use Rattle.bits.proofs.BitsLaws.{and_left}
use Rattle.bus.specs.declared.Flow.{Flow}
use Rattle.bus.specs.declared.Window.{Window}
use Rattle.bus.specs.Bus.{View, Board, pins, failed, read_byte, read_word, read_long, read_sized, for_writing, room, allowed, all_of, seen_by}
use Rattle.bus.specs.Bus.{put_byte, put_word, put_long, put_sized}
use Rattle.plan.specs.declared.Plan.{Plan}
use Rattle.movem.specs.declared.Way.{Way}
use Rattle.movem.specs.declared.Spot.{Spot}
use Rattle.movem.specs.Movem.{listed, first_spot, next_spot, Walk, room_way, room_one, block_room, put_way, stored, part_of, put_part, put_one}
use Rattle.movem.specs.Movem.{block_put}
use Rattle.movem.specs.Order.{down_one, block_put_down}
use Rattle.movem.proofs.DownLaws.{block_put_is_down}
use Rattle.step.specs.Steps.{plan_with_flow, checked, commit}
use Rattle.fence.specs.Fence.{Same}
use Rattle.fence.proofs.ViewLaws.{low_end, high_end}
use Rattle.fence.proofs.QuietLaws.{written_by}

-- ---- the same write
module _ (win : Window) (start : ℕ) where
  set_same : (m n : List ℕ) (i x a : ℕ) → length m ≡ length n → (b c : Bool) → eqb a i ≡ b → ltb i (length m) ≡ c
      → get_or m a 0 ≡ get_or n a 0 → get_or (set m i x) a 0 ≡ get_or (set n i x) a 0
  set_same m n i x a l true true e d h =
      let t = ltb-true i (length m) d in cc (eqb-true a i e, get_or-set_same m i x 0 t, get_or-set_same n i x 0 (omega (arith, t, l)))
  set_same m n i x a l true false e d h =
      let t = ltb-false i (length m) d in cc (h, set_out m i x t, set_out n i x (omega (arith, t, l)))
  set_same m n i x a l false c e d h = let t = eqb-false a i e in cc (h, get_or-set_other m i a x 0 t, get_or-set_other n i a x 0 t)

  same_set : (m n : List ℕ) (i x : ℕ) → Same win start m n → Same win start (set m i x) (set n i x)
  same_set m n i x h =
      record {
        long = cc (length-set m i x, length-set n i x, h.long);
        bytes = λ a p q. set_same m n i x a h.long (eqb a i) (ltb i (length m)) refl refl (h.bytes a p q);
      }

  same_word : (m n : List ℕ) (a v : ℕ) → Same win start m n → Same win start (put_word m a v) (put_word n a v)
  unfolding put_word
  same_word m n a v h =
      same_set (put_byte m a (v / 256)) (put_byte n a (v / 256)) (pins (plus a 1)) (v % 256) (same_set m n (pins a) (v / 256 % 256) h)

  same_long : (m n : List ℕ) (a v : ℕ) → Same win start m n → Same win start (put_long m a v) (put_long n a v)
  unfolding put_long
  same_long m n a v h = same_word (put_word m a (v / 65536)) (put_word n a (v / 65536)) (plus a 2) v (same_word m n a (v / 65536) h)

  same_pick : (b : Bool) (m n p q : List ℕ) → Same win start m n → Same win start p q → Same win start (pick b m p) (pick b n q)
  same_pick true m n p q h k = h
  same_pick false m n p q h k = k

  same_sized : (m n : List ℕ) (a z v : ℕ) → Same win start m n → Same win start (put_sized m a z v) (put_sized n a z v)
  unfolding put_sized by_size
  same_sized m n a z v h =
      same_pick (eqb z 0) (put_byte m a v) (put_byte n a v) (pick (eqb z 1) (put_word m a v) (put_long m a v))
      (pick (eqb z 1) (put_word n a v) (put_long n a v))
      (same_set m n (pins a) (v % 256) h)
      (same_pick (eqb z 1) (put_word m a v) (put_word n a v) (put_long m a v) (put_long n a v) (same_word m n a v h) (same_long m n a v h))

  module _ (r : List ℕ) (p : Plan) where
    same_part : (y : Way) (d : Spot) (m n : List ℕ) → Same win start m n → Same win start (put_part r p y d m) (put_part r p y d n)
    unfolding put_part
    same_part y d m n h =
        let v = part_of r p d.index in
        same_pick (listed d) (put_sized m d.at y.size v) (put_sized n d.at y.size v) m n (same_sized m n d.at y.size v h) h

    same_turns : (y : Way) (k : ℕ) (d : Spot) (m n : List ℕ) → Same win start m n
        → Same win start (iter (put_one r p y) k (record { held = m; spot = d })).held (iter (put_one r p y) k (record { held = n; spot = d })).held
    unfolding iter put_one
    same_turns y zero d m n h = h
    same_turns y (suc k) d m n h = same_turns y k (next_spot y d p.flow) (put_part r p y d m) (put_part r p y d n) (same_part y d m n h)

    same_block : (m n : List ℕ) → Same win start m n → Same win start (block_put m r p) (block_put n r p)
    unfolding block_put
    same_block m n h = same_turns (put_way p) 16 (first_spot (put_way p) p.flow) m n h

    pub same_written : (m n : List ℕ) → Same win start m n → Same win start (written_by m r p) (written_by n r p)
    unfolding commit
    same_written m n h =
        same_pick (eqb p.write NoWrite) m n (commit m r p) (commit n r p) h
        (same_pick (ltb p.write NoWrite)
        (put_sized m p.at p.write p.value) (put_sized n p.at p.write p.value) (block_put m r p) (block_put n r p)
        (same_sized m n p.at p.write p.value h) (same_block m n h))

-- ---- an access that leaves no fault was inside the view
faulty : (f : Flow) (vec p k : ℕ) → 2 ≤ vec % 4 → eqb (failed f vec p k).bad 0 ≡ false
faulty f vec p k e = ne_eqb (failed f vec p k).bad 0 (λ h. omega (arith, e, h))

module _ (v : View) (a k : ℕ) (f : Flow) where
  byte_room : (b c : Bool) → eqb f.bad 0 ≡ b → v.byte_ok (pins a) ≡ c → eqb (read_byte v a k f).flow.bad 0 ≡ true → (b ≡ true) × (c ≡ true)
  unfolding read_byte
  byte_room true true e d h = (refl, refl)
  byte_room true false e d h = (refl, cc (faulty f BusError (pins a) k (omega arith)))
  byte_room false c e d h = (cc, cc)

  word_room : (b o c : Bool) → eqb f.bad 0 ≡ b → eqb (pins a % 2) 1 ≡ o → v.word_ok (pins a) ≡ c → eqb (read_word v a k f).flow.bad 0 ≡ true
      → (b ≡ true) × (o ≡ false) × (c ≡ true)
  unfolding read_word
  word_room true false true e n d h = (refl, refl, refl)
  word_room true false false e n d h = (refl, refl, cc (faulty f BusError (pins a) k (omega arith)))
  word_room true true c e n d h = let z = faulty f AddressError (pins a) k (omega arith) in (refl, cc, cc)
  word_room false o c e n d h = (cc, cc, cc)

  byte_roomy : eqb (read_byte v a k f).flow.bad 0 ≡ true → (eqb f.bad 0 ≡ true) × (v.byte_ok (pins a) ≡ true)
  byte_roomy h = byte_room (eqb f.bad 0) (v.byte_ok (pins a)) refl refl h

  word_roomy : eqb (read_word v a k f).flow.bad 0 ≡ true → (eqb f.bad 0 ≡ true) × (eqb (pins a % 2) 1 ≡ false) × (v.word_ok (pins a) ≡ true)
  word_roomy h = word_room (eqb f.bad 0) (eqb (pins a % 2) 1) (v.word_ok (pins a)) refl refl refl h

-- the two words of a long
long_roomy : (v : View) (a k : ℕ) (f : Flow) → eqb (read_long v a k f).flow.bad 0 ≡ true
    → (eqb (read_word v a k f).flow.bad 0 ≡ true) × (eqb (read_word v (plus a 2) k (read_word v a k f).flow).flow.bad 0 ≡ true)
unfolding read_long
long_roomy v a k f h = ((word_roomy v (plus a 2) k (read_word v a k f).flow h).0, h)

-- the flow had no fault before
module _ (v : View) (a z : ℕ) (f : Flow) where
  back_by : (b c : Bool) → eqb z 0 ≡ b → eqb z 1 ≡ c → eqb (room v a z f).bad 0 ≡ true → eqb f.bad 0 ≡ true
  unfolding room read_sized by_size
  back_by true c e d h = let q = byte_roomy (for_writing v) a DataWrite f cc in q.0
  back_by false true e d h = let q = word_roomy (for_writing v) a DataWrite f cc in q.0
  back_by false false e d h = let q = long_roomy (for_writing v) a DataWrite f cc in (word_roomy (for_writing v) a DataWrite f q.0).0

  room_back : eqb (room v a z f).bad 0 ≡ true → eqb f.bad 0 ≡ true
  room_back h = back_by (eqb z 0) (eqb z 1) refl refl h

-- the address after an even one
after_even : (a : ℕ) → eqb (pins a % 2) 1 ≡ false → pins (plus a 1) ≡ pins a + 1
after_even a h = omega (arith, eqb-false (pins a % 2) 1 h)

-- ---- a write into the window leaves the rest: j is a place outside it
module _ (board : Board) (m : List ℕ) (j : ℕ) (out : board.window.lo ≤ j → j < board.window.hi → ⊥) where
  out_of : (i : ℕ) → board.window.lo ≤ i → i < board.window.hi → j ≡ i → ⊥
  out_of i l u e = out (omega (arith, l, e)) (omega (arith, u, e))

  abbrev v : View
  v = seen_by false board m

  byte_allowed : (x : ℕ) → v.byte_free x ≡ true → allowed false board.window x 1 ≡ true
  unfolding seen_by
  byte_allowed x t = and_left (allowed false board.window x 1) ((all_of m).byte_free x || false) t

  word_allowed : (x : ℕ) → v.word_free x ≡ true → allowed false board.window x 2 ≡ true
  unfolding seen_by
  word_allowed x t = and_left (allowed false board.window x 2) ((all_of m).word_free x || false) t

  byte_out : (n : List ℕ) (a x : ℕ) → v.byte_free (pins a) ≡ true → get_or (put_byte n a x) j 0 ≡ get_or n j 0
  byte_out n a x t =
      let k = byte_allowed (pins a) t in
      get_or-set_other n (pins a) j (x % 256) 0 (out_of (pins a) (low_end board.window (pins a) 1 k) (omega (arith, high_end board.window (pins a) 1 k)))

  word_out : (n : List ℕ) (a x : ℕ) → eqb (pins a % 2) 1 ≡ false → v.word_free (pins a) ≡ true → get_or (put_word n a x) j 0 ≡ get_or n j 0
  unfolding put_word
  word_out n a x e t =
      let k = word_allowed (pins a) t in
      let l = low_end board.window (pins a) 2 k in
      let u = high_end board.window (pins a) 2 k in
      get_or-set_other (put_byte n a (x / 256)) (pins (plus a 1)) j (x % 256) 0
      (λ h. out_of (pins a + 1) (omega (arith, l)) (omega (arith, u)) (h ∙ after_even a e))
      ∙ get_or-set_other n (pins a) j (x / 256 % 256) 0 (out_of (pins a) l (omega (arith, u)))

  module _ (n : List ℕ) (a : ℕ) (f : Flow) (x : ℕ) where
    long_out : eqb (read_long (for_writing v) a DataWrite f).flow.bad 0 ≡ true → get_or (put_long n a x) j 0 ≡ get_or n j 0
    unfolding put_long
    long_out h =
        let s = long_roomy (for_writing v) a DataWrite f h in
        let r = word_roomy (for_writing v) (plus a 2) DataWrite (read_word (for_writing v) a DataWrite f).flow s.1 in
        let q = word_roomy (for_writing v) a DataWrite f s.0 in
        word_out (put_word n a (x / 65536)) (plus a 2) x r.1 r.2 ∙ word_out n a (x / 65536) q.1 q.2

    sized_by : (z : ℕ) (b c : Bool) → eqb z 0 ≡ b → eqb z 1 ≡ c → eqb (room v a z f).bad 0 ≡ true → get_or (put_sized n a z x) j 0 ≡ get_or n j 0
    unfolding room read_sized put_sized by_size
    sized_by z true c e d h = let q = byte_roomy (for_writing v) a DataWrite f cc in cc (byte_out n a x q.1, e)
    sized_by z false true e d h = let q = word_roomy (for_writing v) a DataWrite f cc in cc (word_out n a x q.1 q.2, e, d)
    sized_by z false false e d h = cc (long_out cc, e, d)

    sized_out : (z : ℕ) → eqb (room v a z f).bad 0 ≡ true → get_or (put_sized n a z x) j 0 ≡ get_or n j 0
    sized_out z h = sized_by z (eqb z 0) (eqb z 1) refl refl h

  -- ---- blocks: a walk that puts g k at place k, along the way on which there was room
  module _ (y : Way) where
    one_by : (d : Spot) (b : Bool) → listed d ≡ b → eqb (room_one v y d).flow.bad 0 ≡ true → eqb d.flow.bad 0 ≡ true
    unfolding room_one next_spot
    one_by d true e h = room_back v d.at y.size d.flow cc
    one_by d false e h = cc

    turns_back : (n : ℕ) (d : Spot) → eqb (iter (room_one v y) n d).flow.bad 0 ≡ true → eqb d.flow.bad 0 ≡ true
    unfolding iter
    turns_back zero d h = h
    turns_back (suc n) d h = one_by d (listed d) refl (turns_back n (room_one v y d) h)

    listed_room : (d : Spot) → listed d ≡ true → eqb (room_one v y d).flow.bad 0 ≡ true → eqb (room v d.at y.size d.flow).bad 0 ≡ true
    unfolding room_one next_spot
    listed_room d e h = cc

    module _ (g : ℕ → ℕ) (f : Flow) where
      abbrev put_at : Spot → ℕ → List ℕ → List ℕ
      put_at d i n = pick (listed d) (put_sized n d.at y.size (g i)) n

      abbrev turn : Walk → Walk
      turn t = record { held = put_at t.spot t.spot.index t.held; spot = next_spot y t.spot f }

      part_by : (d : Spot) (i : ℕ) (n : List ℕ) (b : Bool) → listed d ≡ b → eqb (room_one v y d).flow.bad 0 ≡ true
          → get_or (put_at d i n) j 0 ≡ get_or n j 0
      part_by d i n true t h = cc (t, sized_out n d.at d.flow (g i) y.size (listed_room d t h))
      part_by d i n false t h = cc

      walk_out : (k : ℕ) (d : Spot) (i : ℕ) (n : List ℕ) → eqb (iter (room_one v y) k d).flow.bad 0 ≡ true
          → get_or (iter turn k (record { held = n; spot = record { list = d.list; index = i; at = d.at; flow = f } })).held j 0 ≡ get_or n j 0
      unfolding iter room_one next_spot
      walk_out zero d i n h = refl
      walk_out (suc k) d i n h =
          walk_out k (room_one v y d) (plus i 1) (put_at d i n) h ∙ part_by d i n (listed d) refl (turns_back k (room_one v y d) h)

  module _ (r : List ℕ) (p : Plan) (f : Flow) where
    -- the store goes the way that was asked, or, downward, as if it did
    same_way : eqb (p.write / 2) Downward ≡ false → put_way (plan_with_flow p f) ≡ room_way p
    unfolding put_way room_way
    same_way h = cc

    block_by : (b : Bool) → eqb (p.write / 2) Downward ≡ b → eqb (block_room v p).bad 0 ≡ true
        → get_or (block_put m r (plan_with_flow p f)) j 0 ≡ get_or m j 0
    unfolding block_room block_put block_put_down put_one put_part down_one room_way
    block_by false h t =
        ap (λ (y : Way). get_or (iter (put_one r (plan_with_flow p f) y) 16 (record { held = m; spot = first_spot y f })).held j 0) (same_way h)
        ∙ walk_out (room_way p) (part_of r (plan_with_flow p f)) f 16 (first_spot (room_way p) p.flow) 0 m t
    block_by true h t =
        ap (λ (n : List ℕ). get_or n j 0) (block_put_is_down m r (plan_with_flow p f) (eqb-true (p.write / 2) Downward h))
        ∙ walk_out (room_way p) (λ k. stored r p.at (p.value / 65536) (15 - k)) f 16 (first_spot (room_way p) p.flow) 0 m t

    block_out : eqb (block_room v p).bad 0 ≡ true → get_or (block_put m r (plan_with_flow p f)) j 0 ≡ get_or m j 0
    block_out t = block_by (eqb (p.write / 2) Downward) refl t

  module _ (r : List ℕ) (p : Plan) where
    plan_by : (b c : Bool) → eqb p.write NoWrite ≡ b → ltb p.write NoWrite ≡ c → eqb (checked v p).flow.bad 0 ≡ true
        → get_or (written_by m r (checked v p)) j 0 ≡ get_or m j 0
    unfolding checked commit
    plan_by true c e d h = cc
    plan_by false true e d h = cc (sized_out m p.at p.flow p.value p.write cc, e, d)
    plan_by false false e d h = cc (block_out r p (block_room v p) cc, e, d)

    pub plan_out : eqb (checked v p).flow.bad 0 ≡ true → get_or (written_by m r (checked v p)) j 0 ≡ get_or m j 0
    plan_out h = plan_by (eqb p.write NoWrite) (ltb p.write NoWrite) refl refl h
