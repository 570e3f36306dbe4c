-- FormulaLaws.antt - V and C of every sum, difference and negation, with X or without, are those of Table A-1's formulas.
-- sum_by_formula, difference_by_formula, negation_by_formula: for all operands and sizes. V is the formula by definition; C is a carry there.
-- Uses: bits, alu.
use Prim.Native.Nat.{ℕ, suc, ◌+◌, ◌-◌, ◌%◌, ◌≤◌, ◌<◌}
use native.Mathlib.Nat.{mod-lt, mod-eq_of_lt}
use native.Mathlib.Omega.{arith}
use mathlib.Core.Path.{◌≡◌, refl, ap, ◌∙◌}
use mathlib.Core.Bool.{Bool, true, false}
use lib.Dec.{ltb, leb, eqb}
use borrow.Author.Tests.{leb-true, leb-false}
use Rattle.bits.specs.Bits.{pick, bit, by_size, modulus, half, low}
use Rattle.bits.proofs.BitsLaws.{bit_bound}
use Rattle.alu.specs.Alu.{sum, difference}
use Rattle.flag_rows.specs.Formulas.{top_bit, sum_overflow, sum_carry, difference_overflow, difference_borrow, negation_overflow, negation_borrow}
use Rattle.flag_rows.specs.Formulas.{By}

-- whatever holds of a test's two answers, where each may be had
leb_cases : (P : Bool → Type 0) (a b : ℕ) → (a ≤ b → P true) → (b < a → P false) → P (leb a b)
leb_cases P a b f g = go (leb a b) refl
  where
    go : (t : Bool) → leb a b ≡ t → P (leb a b)
    go true e = rw e (f (leb-true a b e))
    go false e = rw e (g (leb-false a b e))

-- M values, of which H have the top bit: d and s make t, of which r is left
module _ (H M d s t r : ℕ) (m : M ≡ H + H) (hd : d < M) (hs : s < M) (hr : r < M) where
  carries : d + s ≤ t → t ≤ d + s + 1 → (t < M → r ≡ t) → (M ≤ t → r + M ≡ t) → leb M t ≡ sum_carry (leb H s) (leb H d) (leb H r)
  carries lo hi inside beyond =
      leb_cases (λ C. C ≡ sum_carry (leb H s) (leb H d) (leb H r)) M t
      (λ c. let e = beyond c in
      leb_cases (λ S. true ≡ sum_carry S (leb H d) (leb H r)) H s
      (λ S. leb_cases (λ D. true ≡ sum_carry true D (leb H r)) H d
      (λ D. refl)
      (λ D. leb_cases (λ R. true ≡ sum_carry true false R) H r (λ R. absurd (omega arith)) (λ R. refl)))
      (λ S. leb_cases (λ D. true ≡ sum_carry false D (leb H r)) H d
      (λ D. leb_cases (λ R. true ≡ sum_carry false true R) H r (λ R. absurd (omega arith)) (λ R. refl))
      (λ D. absurd (omega arith))))
      (λ c. let e = inside c in
      leb_cases (λ S. false ≡ sum_carry S (leb H d) (leb H r)) H s
      (λ S. leb_cases (λ D. false ≡ sum_carry true D (leb H r)) H d
      (λ D. absurd (omega arith))
      (λ D. leb_cases (λ R. false ≡ sum_carry true false R) H r (λ R. refl) (λ R. absurd (omega arith))))
      (λ S. leb_cases (λ D. false ≡ sum_carry false D (leb H r)) H d
      (λ D. leb_cases (λ R. false ≡ sum_carry false true R) H r (λ R. refl) (λ R. absurd (omega arith)))
      (λ D. leb_cases (λ R. false ≡ sum_carry false false R) H r (λ R. refl) (λ R. refl))))

  -- here t is what is taken from d
  borrows : s ≤ t → t ≤ s + 1 → (t ≤ d → r + t ≡ d) → (d < t → r + t ≡ d + M) → ltb d t ≡ difference_borrow (leb H s) (leb H d) (leb H r)
  borrows lo hi inside beyond =
      leb_cases (λ C. C ≡ difference_borrow (leb H s) (leb H d) (leb H r)) (suc d) t
      (λ c. let e = beyond c in
      leb_cases (λ S. true ≡ difference_borrow S (leb H d) (leb H r)) H s
      (λ S. leb_cases (λ D. true ≡ difference_borrow true D (leb H r)) H d
      (λ D. leb_cases (λ R. true ≡ difference_borrow true true R) H r (λ R. refl) (λ R. absurd (omega arith)))
      (λ D. refl))
      (λ S. leb_cases (λ D. true ≡ difference_borrow false D (leb H r)) H d
      (λ D. absurd (omega arith))
      (λ D. leb_cases (λ R. true ≡ difference_borrow false false R) H r (λ R. refl) (λ R. absurd (omega arith)))))
      (λ c. let e = inside (omega arith) in
      leb_cases (λ S. false ≡ difference_borrow S (leb H d) (leb H r)) H s
      (λ S. leb_cases (λ D. false ≡ difference_borrow true D (leb H r)) H d
      (λ D. leb_cases (λ R. false ≡ difference_borrow true true R) H r (λ R. absurd (omega arith)) (λ R. refl))
      (λ D. absurd (omega arith)))
      (λ S. leb_cases (λ D. false ≡ difference_borrow false D (leb H r)) H d
      (λ D. leb_cases (λ R. false ≡ difference_borrow false true R) H r (λ R. refl) (λ R. refl))
      (λ D. leb_cases (λ R. false ≡ difference_borrow false false R) H r (λ R. absurd (omega arith)) (λ R. refl))))

-- ---- a byte, a word and a long: how many values there are, and one turn past the last
record Sized (M H : ℕ) : Type 0 where
  twice : M ≡ H + H
  some : 0 < M
  turn : (t : ℕ) → M ≤ t → t < M + M → t % M + M ≡ t
  zero : leb H (0 % M) ≡ false

sized : (z : ℕ) → Sized (modulus z) (half z)
unfolding by_size
sized z = go (eqb z 0) (eqb z 1)
  where
    go : (a b : Bool) → Sized (pick a 256 (pick b 65536 4294967296)) (pick a 128 (pick b 32768 2147483648))
    go true b = record { twice = refl; some = omega arith; turn = λ t h k. omega arith; zero = refl }
    go false true = record { twice = refl; some = omega arith; turn = λ t h k. omega arith; zero = refl }
    go false false = record { twice = refl; some = omega arith; turn = λ t h k. omega arith; zero = refl }

module _ (a b : ℕ) (x : Bool) (z : ℕ) where
  low_a : low a z < modulus z
  low_a = mod-lt a (sized z).some

  low_b : low b z < modulus z
  low_b = mod-lt b (sized z).some

  pub sum_by_formula : By (sum_overflow (top_bit b z) (top_bit a z) (sum a b x z).n) (sum_carry (top_bit b z) (top_bit a z) (sum a b x z).n) (sum a b x z)
  unfolding sum
  sum_by_formula =
      let t = low a z + low b z + bit x in
      let q = bit_bound x in
      record {
        overflow = refl;
        carry =
            carries (half z) (modulus z) (low a z) (low b z) t (low t z) (sized z).twice low_a low_b (mod-lt t (sized z).some)
            (omega arith) (omega arith) (λ h. mod-eq_of_lt h) (λ h. (sized z).turn t h (omega (arith, low_a, low_b)));
      }

  pub difference_by_formula : By (difference_overflow (top_bit b z) (top_bit a z) (difference a b x z).n) (difference_borrow (top_bit b z) (top_bit a z) (difference a b x z).n) (difference a b x z)
  unfolding difference
  difference_by_formula =
      let t = low b z + bit x in
      let u = low a z + modulus z - t in
      let q = bit_bound x in
      record {
        overflow = refl;
        carry =
            borrows (half z) (modulus z) (low a z) (low b z) t (low u z) (sized z).twice low_a low_b (mod-lt u (sized z).some)
            (omega arith) (omega arith)
            (λ h. omega (arith, (sized z).turn u (omega (arith, low_a, low_b)) (omega (arith, low_a, low_b)), low_a, low_b))
            (λ h. let v : u < modulus z = omega (arith, low_a, low_b) in omega (arith, mod-eq_of_lt v, low_a, low_b));
      }

-- ---- a negation is a difference from 0, whose top bit is 0
without_destination : (S R : Bool) → (difference_overflow S false R ≡ negation_overflow S R) × (difference_borrow S false R ≡ negation_borrow S R)
without_destination true true = (refl, refl)
without_destination true false = (refl, refl)
without_destination false true = (refl, refl)
without_destination false false = (refl, refl)

pub negation_by_formula : (a : ℕ) (x : Bool) (z : ℕ) → By (negation_overflow (top_bit a z) (difference 0 a x z).n) (negation_borrow (top_bit a z) (difference 0 a x z).n) (difference 0 a x z)
negation_by_formula a x z =
    let f = difference_by_formula 0 a x z in
    let w = without_destination (top_bit a z) (difference 0 a x z).n in
    record {
      overflow = f.overflow ∙ ap (λ (D : Bool). difference_overflow (top_bit a z) D (difference 0 a x z).n) (sized z).zero ∙ w.0;
      carry = f.carry ∙ ap (λ (D : Bool). difference_borrow (top_bit a z) D (difference 0 a x z).n) (sized z).zero ∙ w.1;
    }
