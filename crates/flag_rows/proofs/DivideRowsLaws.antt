-- DivideRowsLaws.antt - the flags of products and quotients obey their rows: product_obeys; quotient_obeys, overflow_obeys, zero_obeys.
-- The last three are of the choice that DIVS and DIVU share: zero divisor or not, overflow or not.
-- Uses: bits, flags, multiply_divide.
use Prim.Native.Nat.{ℕ, ◌+◌, ◌*◌, ◌%◌}
use native.Mathlib.Omega.{arith}
use mathlib.Core.Path.{◌≡◌, refl}
use mathlib.Core.Bool.{Bool, true, false, ◌&&◌, not, false≢true}
use Rattle.bits.specs.Bits.{pick, by_size}
use Rattle.multiply_divide.specs.declared.Divided.{Divided}
use Rattle.multiply_divide.specs.MultiplyDivide.{product_result, zero_divide, quotient_result}
use Rattle.flag_rows.specs.Marks.{Obeys}
use Rattle.flag_rows.specs.Rows.{move_row, overflow_row, zero_row, by_quotient}
use Rattle.flag_rows.proofs.MarksLaws.{obeys_of_flags}

pub product_obeys : (v old : ℕ) → Obeys move_row 2 old (product_result v old)
unfolding product_result by_size
product_obeys v old = obeys_of_flags _ _ _ _ _ _ _ _ _ refl refl refl refl refl

low_of_joined : (r q : ℕ) → (r % 65536 * 65536 + q % 65536) % 65536 ≡ q % 65536
low_of_joined r q = omega arith

-- what DIVS and DIVU give, from their two tests
abbrev pub divided : Bool → Bool → ℕ → ℕ → ℕ → ℕ → Divided
divided none over q r a old = pick none (zero_divide a old) (quotient_result over q r a old)

pub quotient_obeys : (none over : Bool) (q r a old : ℕ) → (not none && not over) ≡ true
    → Obeys move_row 1 old (by_quotient (divided none over q r a old))
unfolding quotient_result by_size
quotient_obeys true over q r a old e = absurd (false≢true e)
quotient_obeys false true q r a old e = absurd (false≢true e)
quotient_obeys false false q r a old e =
    obeys_of_flags _ _ _ _ _ _ _ _ _ refl (rw low_of_joined) (rw low_of_joined) refl refl

pub overflow_obeys : (none over : Bool) (q r a old : ℕ) → (not none && over) ≡ true
    → Obeys overflow_row 1 old (by_quotient (divided none over q r a old))
unfolding quotient_result
overflow_obeys true over q r a old e = absurd (false≢true e)
overflow_obeys false false q r a old e = absurd (false≢true e)
overflow_obeys false true q r a old e = obeys_of_flags _ _ _ _ _ _ _ _ _ refl refl refl refl refl

pub zero_obeys : (none over : Bool) (q r a old : ℕ) → none ≡ true
    → Obeys zero_row 1 old (by_quotient (divided none over q r a old))
unfolding zero_divide
zero_obeys false over q r a old e = absurd (false≢true e)
zero_obeys true over q r a old e = obeys_of_flags _ _ _ _ _ _ _ _ _ refl refl refl refl refl
