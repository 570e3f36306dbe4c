-- StoringLaws.antt - laws of the loop that stores a block and notes it.
-- sized_room, noted_sized (entries of the log); storing_again, -memory (the loop).
-- Uses: bits, plan, touch, movem.
use Rattle.std.proofs.Common.{◌≡◌, ℕ, ◌+◌, ◌*◌, ◌<◌, ◌≤◌, Bool, true, false, eqb, List, ap, arith}
use Rattle.bits.specs.Bits.{pick, by_size}
use Rattle.bits.proofs.BitsLaws.{Turns, turns_again}
use Rattle.plan.specs.declared.Plan.{Plan}
use Rattle.touch.specs.Touch.{Noted}
use Rattle.touch.proofs.TouchLaws.{noted_then, noted_within}
use Rattle.movem.specs.declared.Way.{Way}
use Rattle.movem.specs.declared.Spot.{Spot}
use Rattle.movem.specs.Movem.{first_spot, next_spot, Walk, put_way, put_part, put_one, block_put}
use Rattle.movem.proofs.MovemLaws.{walk, walk_end}

-- a part of any size takes at most four entries of the log
four_at_most : (a b : Bool) → pick a 1 (pick b 2 4) ≤ 4
four_at_most true b = omega arith
four_at_most false true = omega arith
four_at_most false false = omega arith

sized_bound : (z : ℕ) → by_size z 1 2 4 ≤ 4
unfolding by_size
sized_bound z = four_at_most (eqb z 0) (eqb z 1)

-- so where there are i entries or more, it has room, and has noted no more than these
pub sized_room : (n z i k : ℕ) → 4 ≤ i → n + i ≤ k → n + by_size z 1 2 4 ≤ k
sized_room n z i k b h = omega (arith, sized_bound z)

pub noted_sized : (m l : List ℕ) (n : ℕ) (m₁ l₁ : List ℕ) (n₁ z i : ℕ) → 4 ≤ i → Noted m l n (by_size z 1 2 4) m₁ l₁ n₁ → Noted m l n i m₁ l₁ n₁
noted_sized m l n m₁ l₁ n₁ z i b a = noted_within m l n (by_size z 1 2 4) m₁ l₁ n₁ i a (omega (arith, sized_bound z))

-- a block that is being stored: j places of the list are done, with at most four entries each
pub record Storing (r : List ℕ) (p : Plan) (w : Way) (m₀ l₀ : List ℕ) (n₀ : ℕ) (d₀ : Spot) (j : ℕ) (m l : List ℕ) (n : ℕ) (d : Spot) : Type 0 where
  pub turns : Turns (put_one r p w) 16 j (walk m₀ d₀) (walk m d)
  pub noted : Noted m₀ l₀ n₀ (j * 4) m l n

module _ (r : List ℕ) (p : Plan) (w : Way) (m₀ l₀ : List ℕ) (n₀ : ℕ) (d₀ : Spot) where
  module _ (j : ℕ) (m l : List ℕ) (n : ℕ) (d : Spot) (s : Storing r p w m₀ l₀ n₀ d₀ j m l n d) where
    pub storing_again : (m₁ l₁ : List ℕ) (n₁ : ℕ) (e : Spot) → j < 16 → m₁ ≡ put_part r p w d m → Noted m l n 4 m₁ l₁ n₁ → e ≡ next_spot w d p.flow
        → Storing r p w m₀ l₀ n₀ d₀ (j + 1) m₁ l₁ n₁ e
    unfolding put_one
    storing_again m₁ l₁ n₁ e h k a q = record {
      turns = turns_again (put_one r p w) 16 j (walk m₀ d₀) (walk m d) s.turns (walk m₁ e) h (rw (k, q));
      noted = noted_then m₀ l₀ n₀ (j * 4) m l n 4 m₁ l₁ n₁ ((j + 1) * 4) (omega arith) s.noted a;
    }

    pub storing_memory : 16 ≤ j → w ≡ put_way p → d₀ ≡ first_spot w p.flow → m ≡ block_put m₀ r p
    unfolding block_put
    storing_memory h e q = let t = ap (λ (y : Walk). y.held) (walk_end (put_one r p w) 16 j m₀ d₀ m d (first_spot w p.flow) s.turns q h) in cc
