-- BlockLaws.antt - laws of the walk of specs/Movem.antt that stores a block.
-- put_way_down; stored_own, stored_other; part_of_register.
-- Uses: bits, operand, plan.
use Rattle.std.proofs.Common.{◌≡◌, ℕ, ◌+◌, ◌*◌, ◌/◌, ◌%◌, ◌≤◌, true, false, eqb, leb, List}
use lib.Count.{ones_in}
use Rattle.bits.specs.Bits.{minus}
use Rattle.operand.specs.Operands.{get}
use Rattle.plan.specs.declared.Plan.{Plan}
use Rattle.movem.specs.Movem.{mirrored, put_way, stored, part_of}

pub put_way_down : (p : Plan) (l a n : ℕ) → eqb (p.write / 2) 3 ≡ true → (n ≡ ones_in 16 p.value) × (n ≤ 16) → l ≡ mirrored p.value
    → a ≡ minus p.at (n * 2 * (1 + p.write % 2))
    → record { size = 1 + p.write % 2; list = l; start = a; step = 2 * (1 + p.write % 2) } ≡ put_way p
unfolding put_way
put_way_down p l a n t e0 e1 e2 = cc

pub part_of_register : (r : List ℕ) (p : Plan) (k v : ℕ) → leb 8 p.write ≡ false → v ≡ stored r p.at (p.value / 65536) k → v ≡ part_of r p k
unfolding part_of
part_of_register r p k v t e = cc

module _ (r : List ℕ) (first own i : ℕ) where
  pub stored_own : eqb i own ≡ true → first ≡ stored r first own i
  unfolding stored
  stored_own t = cc

  pub stored_other : (v : ℕ) → eqb i own ≡ false → v ≡ get r i → v ≡ stored r first own i
  unfolding stored
  stored_other v t e = cc
