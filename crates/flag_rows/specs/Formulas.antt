-- Formulas.antt - the formulas of 003's Table A-1 for V and C of sums, differences and negations, its bars put right (docs/MANUAL.md 2.2).
-- S, D and R are the top bits of source, destination and result.
-- Laws: proofs/FormulaLaws.antt.  Source: [003 A-1].
use Rattle.std.specs.Prelude.{ℕ, ◌≡◌, Bool, ◌&&◌, ◌||◌, not, leb}
use Rattle.bits.specs.Bits.{half, low}
use Rattle.alu.specs.declared.Outcome.{Outcome}

-- the top bit of a byte, a word or a long  [003 A-1]
abbrev pub top_bit : ℕ → ℕ → Bool
top_bit v z = leb (half z) (low v z)

-- V of ADD, ADDI, ADDQ, ADDX  [003 A-1 ADD, ADDX]
abbrev pub sum_overflow : Bool → Bool → Bool → Bool
sum_overflow S D R = (S && D && not R) || (not S && not D && R)

-- their C  [003 A-1 ADD, ADDX]
abbrev pub sum_carry : Bool → Bool → Bool → Bool
sum_carry S D R = (S && D) || (not R && D) || (S && not R)

-- V of SUB, SUBI, SUBQ, SUBX, CMP, CMPA, CMPI, CMPM  [003 A-1 SUB, SUBX, CMP]
abbrev pub difference_overflow : Bool → Bool → Bool → Bool
difference_overflow S D R = (not S && D && not R) || (S && not D && R)

-- their C  [003 A-1 SUB, SUBX, CMP]
abbrev pub difference_borrow : Bool → Bool → Bool → Bool
difference_borrow S D R = (S && not D) || (R && not D) || (S && R)

-- V of NEG, NEGX  [003 A-1 NEG, NEGX]
abbrev pub negation_overflow : Bool → Bool → Bool
negation_overflow D R = D && R

-- their C  [003 A-1 NEG, NEGX]
abbrev pub negation_borrow : Bool → Bool → Bool
negation_borrow D R = D || R

-- the V and C of an outcome are these  [ours]
pub record By (v c : Bool) (o : Outcome) : Type 0 where
  pub overflow : o.v ≡ v
  pub carry : o.c ≡ c
