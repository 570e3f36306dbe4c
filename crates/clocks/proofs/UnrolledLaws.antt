-- UnrolledLaws.antt - the rows of specs/Unrolled.antt are D-1's and D-2's, each of the 64; a long takes 4 more for each part that is in memory.
-- sources_are, sources_long; destinations_are, destinations_long; moved_short, moved_long.
-- Uses: bits.
use Prim.Native.Nat.{ℕ, ◌+◌, ◌*◌, ◌%◌, ◌/◌, ◌<◌}
use native.Mathlib.Omega.{arith}
use mathlib.Core.Path.{◌≡◌, refl, sym, ap, ◌∙◌}
use mathlib.Core.Bool.{Bool, true, false, not}
use lib.ListN.{get_or}
use lib.Dec.{ltb, eqb}
use borrow.Author.Tests.{eqb-true}
use Rattle.bits.specs.Bits.{bit, all_below}
use Rattle.bits.proofs.BitsLaws.{at_below}
use Rattle.clocks.specs.Tables.{destination_table}
use Rattle.clocks.specs.Clocks.{place, operand_clocks, moved}
use Rattle.clocks.specs.Unrolled.{source_rows, destination_rows}
use Rattle.clocks.proofs.FieldLaws.{time_of_field}

-- the same where two numbers are, at each of the 64
agree : (g h : ℕ → ℕ) → all_below (λ (i : ℕ). eqb (g i) (h i)) 64 ≡ true → (i : ℕ) → i < 64 → g i ≡ h i
agree g h t i l = eqb-true (g i) (h i) (at_below (λ (i : ℕ). eqb (g i) (h i)) 64 t i l)

module _ (op : ℕ) where
  pub sources_are : get_or source_rows (op % 64) 0 ≡ operand_clocks op false
  unfolding operand_clocks place all_below
  sources_are = agree (λ i. get_or source_rows i 0) (λ i. operand_clocks i false) refl (op % 64) (omega arith) ∙ sym (time_of_field op false)

  pub sources_long : (a : ℕ) → a ≡ get_or source_rows (op % 64) 0 → a + bit (not (eqb a 0)) * 4 ≡ operand_clocks op true
  unfolding operand_clocks place all_below
  sources_long a e =
      ap (λ (x : ℕ). x + bit (not (eqb x 0)) * 4) e
      ∙ agree (λ i. get_or source_rows i 0 + bit (not (eqb (get_or source_rows i 0) 0)) * 4) (λ i. operand_clocks i true) refl (op % 64) (omega arith)
      ∙ sym (time_of_field op true)

-- a destination's time, by its six bits
abbrev target : Bool → ℕ → ℕ
target long i = get_or destination_table (place (i % 8) (i / 8) * 2 + bit long) 0

target_of : (long : Bool) (op : ℕ) → target long (op / 64 % 64) ≡ get_or destination_table (place (op / 64 % 8) (op / 512 % 8) * 2 + bit long) 0
target_of long op =
    let m : op / 64 % 64 % 8 ≡ op / 64 % 8 = omega arith in
    let n : op / 64 % 64 / 8 ≡ op / 512 % 8 = omega arith in
    ap (λ (x : ℕ). get_or destination_table (place x (op / 64 % 64 / 8) * 2 + bit long) 0) m
    ∙ ap (λ (x : ℕ). get_or destination_table (place (op / 64 % 8) x * 2 + bit long) 0) n

module _ (op : ℕ) where
  pub destinations_are : get_or destination_rows (op / 64 % 64) 0 ≡ get_or destination_table (place (op / 64 % 8) (op / 512 % 8) * 2 + 0) 0
  unfolding place all_below
  destinations_are = agree (λ i. get_or destination_rows i 0) (target false) refl (op / 64 % 64) (omega arith) ∙ target_of false op

  pub destinations_long : (b : ℕ) → b ≡ get_or destination_rows (op / 64 % 64) 0
      → b + bit (ltb 4 b) * 4 ≡ get_or destination_table (place (op / 64 % 8) (op / 512 % 8) * 2 + 1) 0
  unfolding place all_below
  destinations_long b e =
      ap (λ (x : ℕ). x + bit (ltb 4 x) * 4) e
      ∙ agree (λ i. get_or destination_rows i 0 + bit (ltb 4 (get_or destination_rows i 0)) * 4) (target true) refl (op / 64 % 64) (omega arith)
      ∙ target_of true op

-- MOVE: a and b are what the two rows give
module _ (op x y a b : ℕ) (ex : x ≡ get_or source_rows (op % 64) 0) (ey : y ≡ get_or destination_rows (op / 64 % 64) 0) (ea : a ≡ x) (eb : b ≡ y) where
  pub moved_short : eqb (op / 4096) 2 ≡ false → a + b ≡ moved op
  unfolding moved
  moved_short h = let s = sources_are op in let d = destinations_are op in cc

  pub moved_long : (m n : ℕ) → eqb (op / 4096) 2 ≡ true → m ≡ bit (not (eqb a 0)) → n ≡ bit (ltb 4 b) → a + m * 4 + (b + n * 4) ≡ moved op
  unfolding moved
  moved_long m n h em en = let s = sources_long op a (ea ∙ ex) in let d = destinations_long op b (eb ∙ ey) in cc
