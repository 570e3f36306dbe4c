-- ResultLaws.antt - laws of the results of specs/Signed.antt: what each return of the four public functions and of their parts gives; 01's examples.
-- Each has a variable for the result of every call, as the code has it.
-- Uses: bits, flags, SignedLaws.
use Prim.Native.Nat.{ℕ, ◌+◌, ◌*◌, ◌%◌, ◌<◌, ◌≤◌, ◌/◌}
use native.Mathlib.Omega.{arith}
use native.Mathlib.Nat.{mul-le-mul}
use mathlib.Core.Path.{◌≡◌, refl, sym, ◌∙◌}
use mathlib.Core.Bool.{Bool, true, false}
use mathlib.Core.List.{map}
use lib.Dec.{ltb, leb, eqb}
use lib.IntN.{ℤ, pos, ◌*ℤ◌}
use lib.Signed.{mag, quot_z, rem_z}
use mir.Syntax.{w64}
use mir.Val.{to_z, of_z}
use borrow.Author.Tests.{eqb-false}
use Rattle.flags.specs.Flags.{flags, x_of, n_of, z_of}
use Rattle.flags.specs.declared.Flagged.{Flagged}
use Rattle.multiply_divide.specs.declared.Parts.{Parts}
use Rattle.multiply_divide.specs.declared.Divided.{Divided}
use Rattle.multiply_divide.specs.MultiplyDivide.{signed_long, signed_word, low_long, outside_word, product_result, multiply_signed, zero_divide, quotient_result}
use Rattle.multiply_divide.specs.MultiplyDivide.{divide_signed, divide_unsigned}
use Rattle.multiply_divide.specs.Examples.{signed_examples}
use Rattle.multiply_divide.proofs.SignedLaws.{back, word_some}

pub words_bound : (a b : ℕ) → a % 65536 * (b % 65536) < 4294967296
words_bound a b =
    let h : a % 65536 ≤ 65535 = omega arith in
    let k : b % 65536 ≤ 65535 = omega arith in
    let p : a % 65536 * (b % 65536) ≤ 65535 * 65535 = mul-le-mul h k in omega arith

pub divisor_positive : (w : ℕ) → eqb w 0 ≡ false → 0 < w
divisor_positive w t = let h = eqb-false w 0 t in omega arith

module _ (v a old c : ℕ) (x : Bool) (ex : x ≡ x_of old) where
  pub product_is : c ≡ flags x (leb 2147483648 v) (eqb v 0) false false → record { value = v; ccr = c } ≡ product_result v old
  unfolding product_result
  product_is ec = cc

  pub zero_is : c ≡ flags x false false false false → record { value = a; ccr = c; zero = true } ≡ zero_divide a old
  unfolding zero_divide
  zero_is ec = cc

module _ (over : Bool) (q r a old c : ℕ) (x : Bool) (ex : x ≡ x_of old) where
  pub overflow_is : (n z : Bool) → over ≡ true → n ≡ n_of old → z ≡ z_of old → c ≡ flags x n z true false → record { value = a; ccr = c; zero = false } ≡ quotient_result over q r a old
  unfolding quotient_result
  overflow_is n z t en ez ec = cc

  pub quotient_is : over ≡ false → c ≡ flags x (leb 32768 (q % 65536)) (eqb (q % 65536) 0) false false
      → record { value = r % 65536 * 65536 + q % 65536; ccr = c; zero = false } ≡ quotient_result over q r a old
  unfolding quotient_result
  quotient_is t ec = cc

module _ (a b old : ℕ) (x y p : ℤ) (l : ℕ) (r : Flagged) (ex : x ≡ signed_word a) (mx : mag x < 2147483648) (ey : y ≡ signed_word b) (my : mag y < 2147483648) where
  pub multiply_signed_is : p ≡ to_z w64 (of_z w64 x) *ℤ to_z w64 (of_z w64 y) → mag p < 9223372036854775808 → l ≡ low_long (to_z w64 (of_z w64 p))
      → r ≡ product_result l old → r ≡ multiply_signed a b old
  unfolding multiply_signed
  multiply_signed_is ep mp el er = cc (back x (omega arith), back y (omega arith), back p (omega arith))

-- a divisor of 0
module _ (a b old : ℕ) (r : Divided) (t : eqb (b % 65536) 0 ≡ true) (e : r ≡ zero_divide a old) where
  pub divide_signed_zero : r ≡ divide_signed a b old
  unfolding divide_signed
  divide_signed_zero = cc

  pub divide_unsigned_zero : r ≡ divide_unsigned a b old
  unfolding divide_unsigned
  divide_unsigned_zero = cc

pub divide_unsigned_is : (a b old : ℕ) (r : Divided) → eqb (b % 65536) 0 ≡ false
    → r ≡ quotient_result (ltb 65535 (a / (b % 65536))) (a / (b % 65536)) (a % (b % 65536)) a old → r ≡ divide_unsigned a b old
unfolding divide_unsigned
divide_unsigned_is a b old r t e = cc

-- DIVS: x and y are the signed operands, d the quotient and the remainder
module _ (a b old : ℕ) (x y : ℤ) (ex : x ≡ signed_long a) (mx : mag x < 2147483648) (ey : y ≡ signed_word b) (my : mag y < 2147483648) (t : eqb (b % 65536) 0 ≡ false) where
  pub dividend_bound : mag (to_z w64 (of_z w64 x)) < 2147483648
  dividend_bound = rw (back x (omega arith)) mx

  pub divisor_some : to_z w64 (of_z w64 y) ≡ pos 0 → ⊥
  divisor_some e = word_some b t (sym ey ∙ sym (back y (omega arith)) ∙ e)

  module _ (d : Parts) (o : Bool) (u v : ℕ) (r : Divided)
      (ed : d ≡ record { q = quot_z (to_z w64 (of_z w64 x)) (to_z w64 (of_z w64 y)); r = rem_z (to_z w64 (of_z w64 x)) (to_z w64 (of_z w64 y)) })
      (mq : mag d.q < 9223372036854775808) (mr : mag d.r < 9223372036854775808)
      (eo : o ≡ outside_word (to_z w64 (of_z w64 d.q))) (eu : u ≡ low_long (to_z w64 (of_z w64 d.q))) (ev : v ≡ low_long (to_z w64 (of_z w64 d.r))) where
    pub divide_signed_is : r ≡ quotient_result o u v a old → r ≡ divide_signed a b old
    unfolding divide_signed
    divide_signed_is er = cc (back x (omega arith), back y (omega arith), back d.q (omega arith), back d.r (omega arith))

-- 01's own examples
pub examples_hold : map (λ (e : ℕ × ℕ). e.0) signed_examples ≡ map (λ (e : ℕ × ℕ). e.1) signed_examples
unfolding divide_signed multiply_signed quotient_result product_result signed_long signed_word low_long outside_word flags
examples_hold = refl
