-- DownLaws.antt - MOVEM to -(An) leaves what the order of 003 leaves: no two parts of its block meet, so that they may be put in either order.
-- block_put_is_down; ones_of_mirrored.
-- Uses: bits, bus, plan.
use Rattle.std.proofs.Common.{◌≡◌, ℕ, zero, suc, ◌+◌, ◌-◌, ◌*◌, ◌/◌, ◌%◌, ◌^◌, ◌<◌, ◌≤◌, Bool, true, false, eqb, List, [], ◌∷◌, ◌++◌, length, sym, refl, ap, ◌∙◌, mul-le-mul_right, add-one, arith, eq-eqb, ne_eqb, eqb-true}
use native.Mathlib.Nat.{div-div-eq-div-mul}
use mathlib.Core.Path.{fun_ext}
use mathlib.Core.Option.{Option, none, some}
use lib.Seq.{set_comm}
use lib.Count.{ones_in}
use lib.Pow.{field, mod-mod-pow}
use borrow.Author.Tests.{eqb-false, lt-leb}
use Rattle.bits.specs.Bits.{pick, iter, bit, by_size, plus, minus}
use Rattle.bits.proofs.OnesLaws.{ones_bound}
use Rattle.bus.specs.declared.Flow.{Flow}
use Rattle.bus.specs.Bus.{pins, put_byte, put_word, put_long, put_sized}
use Rattle.plan.specs.declared.Plan.{Plan}
use Rattle.movem.specs.declared.Way.{Way}
use Rattle.movem.specs.declared.Spot.{Spot}
use Rattle.movem.specs.Movem.{listed, first_spot, next_spot, Walk, room_way, mirrored, put_way, stored, part_of, put_part, put_one, block_put}
use Rattle.movem.specs.Order.{down_one, block_put_down}
use Rattle.movem.proofs.MovemLaws.{walk, room_way_down}
use Rattle.movem.proofs.BlockLaws.{put_way_down, part_of_register}

-- ---- the bits of a number, lowest first, and what mirrored does to them
abbrev bits : ℕ → ℕ → List Bool
bits zero x = []
bits (suc n) x = eqb (x % 2) 1 ∷ bits n (x / 2)

abbrev value : List Bool → ℕ
value [] = 0
value (b ∷ bs) = bit b + 2 * value bs

abbrev mirror : {A : Type 0} → List A → List A
mirror [] = []
mirror (x ∷ xs) = mirror xs ++ (x ∷ [])

low_bit : (b : Bool) (y : ℕ) → eqb ((bit b + 2 * y) % 2) 1 ≡ b
low_bit true y = eq-eqb ((1 + 2 * y) % 2) 1 (omega arith)
low_bit false y = ne_eqb ((0 + 2 * y) % 2) 1 (omega arith)

high_bits : (b : Bool) (y : ℕ) → (bit b + 2 * y) / 2 ≡ y
high_bits true y = omega arith
high_bits false y = omega arith

bits_of_value : (bs : List Bool) → bits (length bs) (value bs) ≡ bs
bits_of_value [] = refl
bits_of_value (b ∷ bs) = cc (low_bit b (value bs), high_bits b (value bs), bits_of_value bs)

bit_is : (x : ℕ) → bit (eqb (x % 2) 1) ≡ x % 2
bit_is x = by (eqb (x % 2) 1) refl
  where
    by : (b : Bool) → eqb (x % 2) 1 ≡ b → bit b ≡ x % 2
    by true e = sym (eqb-true (x % 2) 1 e)
    by false e = omega (arith, eqb-false (x % 2) 1 e)

low_bits : (n x : ℕ) → bits n (x % 2 ^ n) ≡ bits n x
low_bits zero x = refl
low_bits (suc n) x = cc (add-one n, field x n 1, mod-mod-pow x n 1, low_bits n (x / 2))

mirrored_value : (v : ℕ) → mirrored v ≡ value (mirror (bits 16 v))
unfolding mirrored
mirrored_value v = simp (bit_is, div-div-eq-div-mul) (omega arith)

mirrored_bits : (v : ℕ) → bits 16 (mirrored v) ≡ mirror (bits 16 v)
mirrored_bits v = ap (bits 16) (mirrored_value v) ∙ bits_of_value (mirror (bits 16 v))

-- a mirrored list has as many ones
total : List Bool → ℕ
total [] = 0
total (b ∷ bs) = bit b + total bs

total_append : (bs cs : List Bool) → total (bs ++ cs) ≡ total bs + total cs
unfolding total
total_append [] cs = omega arith
total_append (b ∷ bs) cs = omega (arith, total_append bs cs)

total_mirror : (bs : List Bool) → total (mirror bs) ≡ total bs
unfolding total
total_mirror [] = refl
total_mirror (b ∷ bs) = omega (arith, total_append (mirror bs) (b ∷ []), total_mirror bs)

total_is : (n x : ℕ) → total (bits n x) ≡ ones_in n x
unfolding total ones_in
total_is zero x = refl
total_is (suc n) x = omega (arith, bit_is x, total_is n (x / 2))

pub ones_of_mirrored : (v : ℕ) → ones_in 16 (mirrored v) ≡ ones_in 16 v
ones_of_mirrored v = sym (total_is 16 (mirrored v)) ∙ ap total (mirrored_bits v) ∙ total_mirror (bits 16 v) ∙ total_is 16 v

-- ---- a walk by its parts: a value where the list has a one
abbrev parts : (ℕ → ℕ) → List Bool → ℕ → List (Option ℕ)
parts g [] k = []
parts g (b ∷ bs) k = pick b (some (g k)) none ∷ parts g bs (plus k 1)

abbrev count : List (Option ℕ) → ℕ
count [] = 0
count (none ∷ ps) = count ps
count (some v ∷ ps) = 1 + count ps

-- memory after the parts are put, and where the walk ends
abbrev puts : ℕ → ℕ → List (Option ℕ) → ℕ → List ℕ → List ℕ
puts z s [] a m = m
puts z s (none ∷ ps) a m = puts z s ps a m
puts z s (some v ∷ ps) a m = puts z s ps (plus a s) (put_sized m a z v)

abbrev end : ℕ → List (Option ℕ) → ℕ → ℕ
end s [] a = a
end s (none ∷ ps) a = end s ps a
end s (some v ∷ ps) a = end s ps (plus a s)

puts_append : (z s : ℕ) (ps qs : List (Option ℕ)) (a : ℕ) (m : List ℕ) → puts z s (ps ++ qs) a m ≡ puts z s qs (end s ps a) (puts z s ps a m)
puts_append z s [] qs a m = refl
puts_append z s (none ∷ ps) qs a m = puts_append z s ps qs a m
puts_append z s (some v ∷ ps) qs a m = puts_append z s ps qs (plus a s) (put_sized m a z v)

end_append : (s : ℕ) (ps qs : List (Option ℕ)) (a : ℕ) → end s (ps ++ qs) a ≡ end s qs (end s ps a)
end_append s [] qs a = refl
end_append s (none ∷ ps) qs a = end_append s ps qs a
end_append s (some v ∷ ps) qs a = end_append s ps qs (plus a s)

-- one turn of a walk that puts g k at place k
abbrev turn : (ℕ → ℕ) → Way → Flow → Walk → Walk
turn g w f t = record { held = pick (listed t.spot) (put_sized t.held t.spot.at w.size (g t.spot.index)) t.held; spot = next_spot w t.spot f }

puts_first : (b : Bool) (z s v : ℕ) (ps : List (Option ℕ)) (a : ℕ) (m : List ℕ)
    → puts z s ps (pick b (plus a s) a) (pick b (put_sized m a z v) m) ≡ puts z s (pick b (some v) none ∷ ps) a m
puts_first true z s v ps a m = refl
puts_first false z s v ps a m = refl

walked : (g : ℕ → ℕ) (w : Way) (f : Flow) (n : ℕ) (m : List ℕ) (d : Spot)
    → (iter (turn g w f) n (walk m d)).held ≡ puts w.size w.step (parts g (bits n d.list) d.index) d.at m
unfolding iter next_spot
walked g w f zero m d = refl
walked g w f (suc n) m d =
    walked g w f n (pick (listed d) (put_sized m d.at w.size (g d.index)) m) (next_spot w d f)
    ∙ puts_first (listed d) w.size w.step (g d.index) (parts g (bits n (d.list / 2)) (plus d.index 1)) d.at m

count_first : (b : Bool) (v : ℕ) (ps : List (Option ℕ)) → count (pick b (some v) none ∷ ps) ≡ bit b + count ps
count_first true v ps = refl
count_first false v ps = omega arith

count_is : (g : ℕ → ℕ) (n x k : ℕ) → count (parts g (bits n x) k) ≡ ones_in n x
unfolding ones_in
count_is g zero x k = refl
count_is g (suc n) x k =
    omega (arith, count_first (eqb (x % 2) 1) (g k) (parts g (bits n (x / 2)) (plus k 1)), bit_is x, count_is g n (x / 2) (plus k 1))

-- ---- parts that lie apart: b is d below a, and neither reaches the other in 2^24 bytes
abbrev Apart : ℕ → ℕ → ℕ → ℕ → Type 0
Apart s d a b = ((b + d) % 16777216 ≡ a % 16777216) × (s ≤ d) × (d + s ≤ 16777216)

two_by_two : (a b c d : List ℕ → List ℕ)
    → ((m : List ℕ) → c (a m) ≡ a (c m)) → ((m : List ℕ) → d (a m) ≡ a (d m))
    → ((m : List ℕ) → c (b m) ≡ b (c m)) → ((m : List ℕ) → d (b m) ≡ b (d m))
    → (m : List ℕ) → d (c (b (a m))) ≡ b (a (d (c m)))
two_by_two a b c d ca da cb db m = ap d (cb (a m)) ∙ db (c (a m)) ∙ ap (λ (x : List ℕ). b (d x)) (ca m) ∙ ap b (da (c m))

byte_comm : (a b u v d : ℕ) → Apart 1 d a b → (m : List ℕ) → put_byte (put_byte m a u) b v ≡ put_byte (put_byte m b v) a u
byte_comm a b u v d h m = set_comm m (pins a) (pins b) (u % 256) (v % 256) (omega arith)

word_comm : (a b u v d : ℕ) → Apart 2 d a b → (m : List ℕ) → put_word (put_word m a u) b v ≡ put_word (put_word m b v) a u
unfolding put_word
word_comm a b u v d h =
    two_by_two (λ m. put_byte m a (u / 256)) (λ m. put_byte m (plus a 1) u) (λ m. put_byte m b (v / 256)) (λ m. put_byte m (plus b 1) v)
    (byte_comm a b (u / 256) (v / 256) d (omega arith))
    (byte_comm a (plus b 1) (u / 256) v (d - 1) (omega arith))
    (byte_comm (plus a 1) b u (v / 256) (d + 1) (omega arith))
    (byte_comm (plus a 1) (plus b 1) u v d (omega arith))

long_comm : (a b u v d : ℕ) → Apart 4 d a b → (m : List ℕ) → put_long (put_long m a u) b v ≡ put_long (put_long m b v) a u
unfolding put_long
long_comm a b u v d h =
    two_by_two (λ m. put_word m a (u / 65536)) (λ m. put_word m (plus a 2) u) (λ m. put_word m b (v / 65536)) (λ m. put_word m (plus b 2) v)
    (word_comm a b (u / 65536) (v / 65536) d (omega arith))
    (word_comm a (plus b 2) (u / 65536) v (d - 2) (omega arith))
    (word_comm (plus a 2) b u (v / 65536) (d + 2) (omega arith))
    (word_comm (plus a 2) (plus b 2) u v d (omega arith))

part_comm : (k : ℕ) → k < 2 → (a b u v d : ℕ) → Apart (2 * (1 + k)) d a b → (m : List ℕ)
    → put_sized (put_sized m a (1 + k) u) b (1 + k) v ≡ put_sized (put_sized m b (1 + k) v) a (1 + k) u
unfolding put_sized by_size
part_comm zero i a b u v d h m = word_comm a b u v d h m
part_comm (suc zero) i a b u v d h m = long_comm a b u v d h m
part_comm (suc (suc k)) i a b u v d h m = absurd (omega arith)

-- ---- a walk down and the walk up over its parts in the other order
fall : (e c s t y : ℕ) → s + t ≡ 2 ^ 32 → (e + y) % 2 ^ 32 ≡ plus c t % 2 ^ 32 → (e + (s + y)) % 2 ^ 32 ≡ c % 2 ^ 32
fall e c s t y h g = omega arith

rise : (e s x y z : ℕ) → z + y ≡ x + s → (e + y) % 2 ^ 32 ≡ x % 2 ^ 32 % 2 ^ 32 → z % 2 ^ 32 ≡ plus e s
rise e s x y z h g = omega arith

module _ (k : ℕ) (i : k < 2) where
  abbrev up : ℕ
  up = 2 * (1 + k)

  abbrev down : ℕ
  down = minus 0 (2 * (1 + k))

  -- a part above a walk down may be put after it
  past_walk : (ps : List (Option ℕ)) (c d a v : ℕ) (m : List ℕ) → (c + d) % 16777216 ≡ a % 16777216 → up ≤ d → d + up * count ps ≤ 16777216
      → puts (1 + k) down ps c (put_sized m a (1 + k) v) ≡ put_sized (puts (1 + k) down ps c m) a (1 + k) v
  past_walk [] c d a v m e l b = refl
  past_walk (none ∷ ps) c d a v m e l b = past_walk ps c d a v m e l b
  past_walk (some u ∷ ps) c d a v m e l b =
      ap (puts (1 + k) down ps (plus c down)) (part_comm k i a c v u d (e, l, omega arith) m)
      ∙ past_walk ps (plus c down) (d + up) a v (put_sized m c (1 + k) u) (omega arith) (omega arith) (omega arith)

  -- the walk up comes back to where the walk down began
  back : (ps : List (Option ℕ)) (c : ℕ) → end up (mirror ps) (plus (end down ps c) up) ≡ plus c up
  back [] c = refl
  back (none ∷ ps) c = end_append up (mirror ps) (none ∷ []) (plus (end down ps c) up) ∙ back ps c
  back (some v ∷ ps) c =
      end_append up (mirror ps) (some v ∷ []) (plus (end down ps (plus c down)) up)
      ∙ ap (λ (x : ℕ). plus x up) (back ps (plus c down)) ∙ omega arith

  up_is_down : (ps : List (Option ℕ)) (a : ℕ) (m : List ℕ) → a < 2 ^ 32 → up + up * count ps ≤ 16777216
      → puts (1 + k) up (mirror ps) (plus (end down ps a) up) m ≡ puts (1 + k) down ps a m
  up_is_down [] a m h b = refl
  up_is_down (none ∷ ps) a m h b = puts_append (1 + k) up (mirror ps) (none ∷ []) (plus (end down ps a) up) m ∙ up_is_down ps a m h b
  up_is_down (some v ∷ ps) a m h b =
      let c = plus (end down ps (plus a down)) up in
      puts_append (1 + k) up (mirror ps) (some v ∷ []) c m
      ∙ ap (λ (x : ℕ). put_sized (puts (1 + k) up (mirror ps) c m) x (1 + k) v) (back ps (plus a down) ∙ omega arith)
      ∙ ap (λ (x : List ℕ). put_sized x a (1 + k) v) (up_is_down ps (plus a down) m (omega arith) (omega arith))
      ∙ sym (past_walk ps (plus a down) up a v m (omega arith) (omega arith) (omega arith))

  -- where the walk down ends
  end_is : (ps : List (Option ℕ)) (c : ℕ) → (end down ps c + up * count ps) % 2 ^ 32 ≡ c % 2 ^ 32
  end_is [] c = omega arith
  end_is (none ∷ ps) c = end_is ps c
  end_is (some v ∷ ps) c =
      ap (λ (x : ℕ). (end down ps (plus c down) + x) % 2 ^ 32) (omega arith)
      ∙ fall (end down ps (plus c down)) c up down (up * count ps) (omega arith) (end_is ps (plus c down))

  either_way : (ps : List (Option ℕ)) (n at : ℕ) (m : List ℕ) → count ps ≡ n → n ≤ 16
      → puts (1 + k) up (mirror ps) (minus at (n * 2 * (1 + k))) m ≡ puts (1 + k) down ps (minus at up) m
  either_way ps n at m e b =
      let few : k ≤ 1 = omega arith in
      let most : k * n ≤ 1 * n = mul-le-mul_right n few in
      let same : k * count ps ≡ k * n = ap (λ (x : ℕ). k * x) e in
      let x = at + 2 ^ 32 - up in
      let y = at + 2 ^ 32 - n * 2 * (1 + k) in
      ap (λ (a : ℕ). puts (1 + k) up (mirror ps) a m)
      (rise (end down ps (minus at up)) up x (up * count ps) y (omega arith) (end_is ps (minus at up)))
      ∙ up_is_down ps (minus at up) m (omega arith) (omega arith)

  -- the same over the bits of a list and of its mirror: place j of the one is place 15 - j of the other
  over_mirror : (g : ℕ → ℕ) (v at : ℕ) (m : List ℕ)
      → puts (1 + k) up (parts g (bits 16 (mirrored v)) 0) (minus at (ones_in 16 v * 2 * (1 + k))) m
      ≡ puts (1 + k) down (parts (λ j. g (15 - j)) (bits 16 (v % 65536)) 0) (minus at up) m
  over_mirror g v at m =
      ap (λ (bs : List Bool). puts (1 + k) up (parts g bs 0) (minus at (ones_in 16 v * 2 * (1 + k))) m) (mirrored_bits v)
      ∙ either_way (parts (λ j. g (15 - j)) (bits 16 v) 0) (ones_in 16 v) at m (count_is (λ j. g (15 - j)) 16 v 0) (ones_bound 16 v)
      ∙ ap (λ (bs : List Bool). puts (1 + k) down (parts (λ j. g (15 - j)) bs 0) (minus at up) m) (sym (low_bits 16 v))

-- ---- the block of -(An), as it is stored and as 003 stores it
abbrev up_way : Plan → Way
up_way p = let z = 1 + p.write % 2 in record { size = z; list = mirrored p.value; start = minus p.at (ones_in 16 p.value * 2 * z); step = 2 * z }

abbrev down_way : Plan → Way
down_way p = let z = 1 + p.write % 2 in record { size = z; list = p.value % 65536; start = minus p.at (2 * z); step = minus 0 (2 * z) }

module _ (r : List ℕ) (p : Plan) (e : p.write / 2 ≡ 3) where
  up_is : up_way p ≡ put_way p
  up_is = put_way_down p (up_way p).list (up_way p).start (ones_in 16 p.value) (eq-eqb (p.write / 2) 3 e) (refl, ones_bound 16 p.value) refl refl

  down_is : down_way p ≡ room_way p
  down_is = room_way_down p (down_way p).start (down_way p).step (ne_eqb (p.write / 2) 2 (omega arith)) (eq-eqb (p.write / 2) 3 e) refl refl

  part_is : (k : ℕ) → part_of r p k ≡ stored r p.at (p.value / 65536) k
  part_is k = sym (part_of_register r p k (stored r p.at (p.value / 65536) k) (lt-leb 8 p.write (omega arith)) refl)

-- MOVEM to -(An) leaves in memory what the order of 003 leaves
pub block_put_is_down : (m r : List ℕ) (p : Plan) → p.write / 2 ≡ 3 → block_put m r p ≡ block_put_down m r p
unfolding block_put block_put_down put_one put_part down_one
block_put_is_down m r p e =
    let u = up_way p in
    let d = down_way p in
    let h = stored r p.at (p.value / 65536) in
    ap (λ (w : Way). (iter (put_one r p w) 16 (walk m (first_spot w p.flow))).held) (sym (up_is r p e))
    ∙ walked (part_of r p) u p.flow 16 m (first_spot u p.flow)
    ∙ ap (λ (g : ℕ → ℕ). puts u.size u.step (parts g (bits 16 u.list) 0) u.start m) (fun_ext (part_is r p e))
    ∙ over_mirror (p.write % 2) (omega arith) h p.value p.at m
    ∙ sym (walked (λ j. h (15 - j)) d p.flow 16 m (first_spot d p.flow))
    ∙ ap (λ (w : Way). (iter (down_one r p w) 16 (walk m (first_spot w p.flow))).held) (down_is r p e)
