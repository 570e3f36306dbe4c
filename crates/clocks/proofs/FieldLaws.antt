-- FieldLaws.antt - laws that go by the six bits of an effective address: a test of each of the 64 says them of every operation word.
-- place_of_field; direct_field; register_time; direct_register, -immediate, -memory.
-- Uses: bits.
use Prim.Native.Nat.{ℕ, ◌+◌, ◌*◌, ◌%◌, ◌/◌, ◌<◌}
use native.Mathlib.Omega.{arith}
use mathlib.Core.Path.{◌≡◌, refl, sym, ap, ◌∙◌}
use mathlib.Core.Bool.{Bool, true, false, ◌||◌, not}
use lib.ListN.{get_or}
use lib.Dec.{ltb, eqb}
use borrow.Author.Tests.{eqb-true, eqb-false, lt-ltb, le-ltb}
use Rattle.bits.specs.Bits.{bit, all_below}
use Rattle.bits.proofs.BitsLaws.{at_below}
use Rattle.clocks.specs.Tables.{operand_table}
use Rattle.clocks.specs.Clocks.{place, place_of, operand_clocks, direct}

-- two tests agree
unfoldable pub same : Bool → Bool → Bool
same true b = b
same false b = not b

pub same_true : (a b : Bool) → same a b ≡ true → a ≡ b
unfolding same
same_true true b h = sym h
same_true false true h = h
same_true false false h = refl

-- the row goes by the six bits alone
pub place_of_field : (op : ℕ) → place_of op ≡ place_of (op % 64)
place_of_field op =
    let m : op / 8 % 8 ≡ op % 64 / 8 % 8 = omega arith in
    let n : op % 8 ≡ op % 64 % 8 = omega arith in
    ap (λ (x : ℕ). place x (op % 8)) m ∙ ap (λ (x : ℕ). place (op % 64 / 8 % 8) x) n

pub time_of_field : (op : ℕ) (long : Bool) → operand_clocks op long ≡ operand_clocks (op % 64) long
unfolding operand_clocks
time_of_field op long = ap (λ (p : ℕ). get_or operand_table (p * 2 + bit long) 0) (place_of_field op)

-- direct are the first two modes, and the immediate one
pub direct_field : (op : ℕ) → direct op ≡ (ltb (op % 64) 16 || eqb (op % 64) 60)
unfolding direct place all_below same
direct_field op =
    ap (λ (p : ℕ). ltb p 2 || eqb p 11) (place_of_field op)
    ∙ same_true (direct (op % 64)) (ltb (op % 64) 16 || eqb (op % 64) 60)
    (at_below (λ (i : ℕ). same (direct i) (ltb i 16 || eqb i 60)) 64 refl (op % 64) (omega arith))

-- a register takes no time
register_row : (long : Bool) (i : ℕ) → i < 16 → operand_clocks i long ≡ 0
unfolding operand_clocks place all_below
register_row true i l = eqb-true (operand_clocks i true) 0 (at_below (λ (i : ℕ). eqb (operand_clocks i true) 0) 16 refl i l)
register_row false i l = eqb-true (operand_clocks i false) 0 (at_below (λ (i : ℕ). eqb (operand_clocks i false) 0) 16 refl i l)

module _ (op : ℕ) where
  low_field : eqb (op / 16 % 4) 0 ≡ true → op % 64 < 16
  low_field h = let z : op / 16 % 4 ≡ 0 = eqb-true (op / 16 % 4) 0 h in omega arith

  pub register_time : (long : Bool) → eqb (op / 16 % 4) 0 ≡ true → operand_clocks op long ≡ 0
  register_time long h = time_of_field op long ∙ register_row long (op % 64) (low_field h)

  pub direct_register : eqb (op / 16 % 4) 0 ≡ true → direct op ≡ true
  direct_register h = direct_field op ∙ ap (λ (b : Bool). b || eqb (op % 64) 60) (lt-ltb (op % 64) 16 (low_field h))

  module _ (h : eqb (op / 16 % 4) 0 ≡ false) where
    high : ltb (op % 64) 16 ≡ false
    high = let n = eqb-false (op / 16 % 4) 0 h in le-ltb (op % 64) 16 (omega (arith, n))

    pub direct_immediate : eqb (op % 64) 60 ≡ true → direct op ≡ true
    direct_immediate k = let d = direct_field op in let l = high in cc

    pub direct_memory : eqb (op % 64) 60 ≡ false → direct op ≡ false
    direct_memory k = let d = direct_field op in let l = high in cc
