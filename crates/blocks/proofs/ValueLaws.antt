-- ValueLaws.antt - a block of words that fits, stored as values: its way lies inside memory, and the copied registers are what it has at each place.
-- inside_when_fits; block_put_is_values; below_start, values_memory (what store_whole owes).
-- Uses: bits, bus, operand, plan.
use Rattle.std.proofs.Common.{◌≡◌, ℕ, zero, suc, ◌+◌, ◌*◌, ◌/◌, ◌<◌, ◌≤◌, Bool, true, false, eqb, ltb, List, length, get_or, set, sym, refl, ap, ◌∙◌, arith, length-set, get_or-set_other, get_or-set_same, ltb-false, ltb-true, lt-ltb, ne_eqb, eqb-true}
use lib.Count.{ones_in}
use borrow.Author.Tests.{eqb-false, lt-leb}
use Rattle.codes.specs.Codes.{Slots}
use Rattle.bits.specs.Bits.{iter}
use Rattle.bits.proofs.OnesLaws.{ones_low}
use Rattle.bus.specs.Bus.{pins}
use Rattle.operand.specs.Operands.{get, put}
use Rattle.plan.specs.declared.Plan.{Plan}
use Rattle.touch.specs.Touch.{AllBelow}
use Rattle.movem.specs.declared.Way.{Way}
use Rattle.movem.specs.declared.Spot.{Spot}
use Rattle.movem.specs.Movem.{first_spot, next_spot, Walk, mirrored_byte, mirrored, put_way, stored, part_of, put_part, put_one, block_put}
use Rattle.movem.specs.Whole.{Inside, put_value, put_values}
use Rattle.movem.proofs.MovemLaws.{walk}
use Rattle.movem.proofs.BlockLaws.{part_of_register, stored_own, stored_other}
use Rattle.movem.proofs.DownLaws.{ones_of_mirrored}
use Rattle.movem.proofs.OrderLaws.{Words}
use Rattle.movem.proofs.FitsLaws.{FitsIn, way_up, way_down, way_sizes}

-- ---- the way
mirrored_small : (v : ℕ) → mirrored v < 65536
unfolding mirrored
mirrored_small v = omega (arith, byte_small v, byte_small (v / 256))
  where
    byte_small : (x : ℕ) → mirrored_byte x < 256
    byte_small x = omega arith

-- the list of a block's way: sixteen bits, with the ones of the plan's
way_list : (p : Plan) → Words p → ((put_way p).list < 65536) × (ones_in 16 (put_way p).list ≡ ones_in 16 p.value)
way_list p h = go (eqb (p.write / 2) 2) refl
  where
    go : (b : Bool) → eqb (p.write / 2) 2 ≡ b → ((put_way p).list < 65536) × (ones_in 16 (put_way p).list ≡ ones_in 16 p.value)
    go true e = let w = way_up p h (eqb-true (p.write / 2) 2 e) in rw w (omega arith, ones_low 16 p.value)
    go false e = let w = way_down p h (omega (arith, eqb-false (p.write / 2) 2 e)) in rw w (mirrored_small p.value, ones_of_mirrored p.value)

pub inside_when_fits : (len : ℕ) (p : Plan) (w : Way) → FitsIn 0 len p → w ≡ put_way p → Inside len w
inside_when_fits len p w f e =
    let z = way_sizes p f.words in
    let l = way_list p f.words in
    rw e
    (record {
      part = (omega (arith, z.0), omega (arith, z.0));
      close = z.1 ∙ ap (λ (x : ℕ). 2 * x) (sym z.0);
      short = l.0;
      within = rw l.1 f.inside;
    })

-- ---- the values
-- register k, of sixteen, among the copied ones: where -(An) lowered one, its first value stands
module _ (r t : List ℕ) (p : Plan) (h : p.write < 8) (n : length t ≡ Slots) (e : t ≡ put r (p.value / 65536) p.at) (k : ℕ) (l : k < 16) where
  abbrev own : ℕ
  own = p.value / 65536

  plain : get_or r k 0 ≡ get r k
  unfolding get
  plain = let q = lt-ltb k 17 (omega arith) in rw q

  copied : get_or t k 0 ≡ stored r p.at own k
  unfolding put
  copied = go (ltb own 17) (eqb k own) refl refl
    where
      go : (b c : Bool) → ltb own 17 ≡ b → eqb k own ≡ c → get_or t k 0 ≡ stored r p.at own k
      go true true b c =
          let s : t ≡ set r own p.at = e ∙ rw b in
          let q = eqb-true k own c in
          let y = length-set r own p.at in
          let x : length r ≡ Slots = sym y ∙ sym (ap length s) ∙ n in
          ap (λ (i : ℕ). get_or t i 0) q ∙ ap (λ (z : List ℕ). get_or z own 0) s ∙ get_or-set_same r own p.at 0 (omega (arith, x, ltb-true own 17 b))
          ∙ stored_own r p.at own k c
      go true false b c =
          let s : t ≡ set r own p.at = e ∙ rw b in
          ap (λ (z : List ℕ). get_or z k 0) s ∙ get_or-set_other r own k p.at 0 (eqb-false k own c) ∙ stored_other r p.at own k (get_or r k 0) c plain
      go false c b q =
          let s : t ≡ r = e ∙ rw b in
          ap (λ (z : List ℕ). get_or z k 0) s
          ∙ stored_other r p.at own k (get_or r k 0) (ne_eqb k own (omega (arith, ltb-false own 17 b))) plain

  copied_part : get_or t k 0 ≡ part_of r p k
  copied_part = part_of_register r p k (get_or t k 0) (lt-leb 8 p.write h) copied

module _ (r t : List ℕ) (p : Plan) (h : p.write < 8) (x : length t ≡ Slots) (e : t ≡ put r (p.value / 65536) p.at) (w : Way) where
  one_value : (m : List ℕ) (d : Spot) → d.index < 16 → put_one r p w (walk m d) ≡ put_value t w p.flow (walk m d)
  unfolding put_one put_part put_value
  one_value m d l = let q = copied_part r t p h x e d.index l in rw q

  all_values : (n : ℕ) (m : List ℕ) (d : Spot) → d.index + n ≤ 16 → iter (put_one r p w) n (walk m d) ≡ iter (put_value t w p.flow) n (walk m d)
  unfolding iter next_spot put_one
  all_values zero m d l = refl
  all_values (suc n) m d l =
      all_values n (put_part r p w d m) (next_spot w d p.flow) (omega arith)
      ∙ ap (iter (put_value t w p.flow) n) (one_value m d (omega arith))

  pub block_put_is_values : w ≡ put_way p → (m : List ℕ) → put_values t w p.flow m ≡ block_put m r p
  unfolding block_put put_values
  block_put_is_values g m =
      ap (λ (y : Walk). y.held) (sym (all_values 16 m (first_spot w p.flow) (omega arith)))
      ∙ ap (λ (y : Way). (iter (put_one r p y) 16 (walk m (first_spot y p.flow))).held) g

-- ---- what the functions owe
pub below_start : (l : List ℕ) (n : ℕ) (p : Plan) (w : Way) → w ≡ put_way p → AllBelow l n (pins (put_way p).start) → AllBelow l n (pins w.start)
below_start l n p w e b = rw e b

pub values_memory : (m m₁ r t : List ℕ) (p : Plan) (w : Way) → FitsIn 0 (length m) p → w ≡ put_way p
    → t ≡ put r (p.value / 65536) p.at → length t ≡ Slots → m₁ ≡ put_values t w p.flow m → m₁ ≡ block_put m r p
values_memory m m₁ r t p w f e g x h = h ∙ block_put_is_values r t p f.words.1 x g w e m
