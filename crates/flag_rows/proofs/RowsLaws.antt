-- RowsLaws.antt - the theorem of specs/Rows.antt: the flags that the arithmetic of every instruction gives obey its row.
-- A law for each shape of flags (concluded_obeys .. decimal_obeys; those of division and of shifts stand beside), rows_hold over the list, flags_obey_rows.
-- Uses: bits, flags, alu, decimal, multiply_divide, shift.
use Prim.Native.Nat.{ℕ, zero, suc, ◌<◌, ◌%◌, ◌^◌}
use native.Mathlib.Omega.{arith}
use mathlib.Core.Path.{◌≡◌, refl, sym}
use mathlib.Core.Bool.{Bool, true, false, ◌&&◌, ◌||◌, not}
use mathlib.Core.List.{List, [], ◌∷◌}
use lib.ListN.{get_or, length}
use lib.Dec.{ltb, leb, eqb}
use lib.Bits.{bit_and}
use Rattle.bits.specs.Bits.{pick, half, low, by_size}
use Rattle.flags.specs.Flags.{n_of}
use Rattle.alu.specs.declared.Outcome.{Outcome}
use Rattle.alu.specs.Alu.{sum, difference, concluded, continued, compare, moved, bit_number, bit_operation, tas, biased, check}
use Rattle.decimal.specs.Decimal.{decimal_result, decimal_add, decimal_subtract}
use Rattle.multiply_divide.specs.MultiplyDivide.{multiply_signed, divide_signed, divide_unsigned}
use Rattle.shift.specs.Shift.{by_kind}
use Rattle.flag_rows.specs.Marks.{Mark, as_result, by_formula, kept, cleared, set_to_1, undefined, row, Follows, Obeys, Entry, KeptTo}
use Rattle.flag_rows.specs.Rows.{rows, sum_row, extended_row, compare_row, move_row, decimal_row, below, above, no_divisor, outside_signed}
use Rattle.flag_rows.specs.Rows.{outside_unsigned}
use Rattle.flag_rows.proofs.MarksLaws.{obeys_of_flags}
use Rattle.flag_rows.proofs.DivideRowsLaws.{product_obeys, quotient_obeys, overflow_obeys, zero_obeys}
use Rattle.flag_rows.proofs.ShiftRowsLaws.{arithmetic_left_obeys, arithmetic_right_obeys, logical_obeys, extend_obeys, rotate_obeys, still_obeys}

-- sums and differences, whose N is the top bit of the result
sum_sign : (a b : ℕ) (x : Bool) (z : ℕ) → (sum a b x z).n ≡ leb (half z) (sum a b x z).r
unfolding sum
sum_sign a b x z = refl

difference_sign : (a b : ℕ) (x : Bool) (z : ℕ) → (difference a b x z).n ≡ leb (half z) (difference a b x z).r
unfolding difference
difference_sign a b x z = refl

module _ (o : Outcome) (z old : ℕ) (e : o.n ≡ leb (half z) o.r) where
  concluded_obeys : Obeys sum_row z old (concluded o)
  unfolding concluded
  concluded_obeys = obeys_of_flags _ _ _ _ _ _ _ _ _ refl e refl tt tt

  continued_obeys : Obeys extended_row z old (continued o old)
  unfolding continued
  continued_obeys = obeys_of_flags _ _ _ _ _ _ _ _ _ refl e refl tt tt

compare_obeys : (a b old z : ℕ) → Obeys compare_row z old (record { value = (concluded (difference a b false z)).value; ccr = (compare a b old z).ccr })
unfolding compare concluded difference
compare_obeys a b old z = obeys_of_flags _ _ _ _ _ _ _ _ _ refl refl refl tt tt

moved_obeys : (v old z : ℕ) → Obeys move_row z old (moved v old z)
unfolding moved
moved_obeys v old z = obeys_of_flags _ _ _ _ _ _ _ _ _ refl refl refl refl refl

tas_obeys : (v old : ℕ) → Obeys move_row 0 old (record { value = low v 0; ccr = (tas v old).ccr })
unfolding tas moved
tas_obeys v old = moved_obeys v old 0

-- a cleared operand is 0 at every size, which is below every half
clear_is_0 : (p q : Bool) → (eqb (0 % pick p 256 (pick q 65536 4294967296)) 0 ≡ true) × (leb (pick p 128 (pick q 32768 2147483648)) (0 % pick p 256 (pick q 65536 4294967296)) ≡ false)
clear_is_0 true q = (refl, refl)
clear_is_0 false true = (refl, refl)
clear_is_0 false false = (refl, refl)

clear_obeys : (old z : ℕ) → Obeys (row kept cleared set_to_1 cleared cleared) z old (moved 0 old z)
unfolding moved by_size
clear_obeys old z = obeys_of_flags _ _ _ _ _ _ _ _ _ refl (clear_is_0 (eqb z 0) (eqb z 1)).1 (clear_is_0 (eqb z 0) (eqb z 1)).0 refl refl

bit_obeys : (v n k old z : ℕ) → Obeys (row kept kept as_result kept kept) z old (record { value = bit_and v (2 ^ bit_number n z); ccr = (bit_operation v n k old z).ccr })
unfolding bit_operation
bit_obeys v n k old z = obeys_of_flags _ _ _ _ _ _ _ _ _ refl refl refl refl refl

-- CHK's N in its three cases
n_below : (b a n : Bool) → b ≡ true → (b || (not a && n)) ≡ true
n_below b a n e = rw e

n_above : (b a n : Bool) → (not b && a) ≡ true → (b || (not a && n)) ≡ false
n_above true a n e = sym e
n_above false true n e = refl
n_above false false n e = cc

n_within : (b a n : Bool) → (not b && not a) ≡ true → (b || (not a && n)) ≡ n
n_within true a n e = cc
n_within false true n e = cc
n_within false false n e = refl

check_obeys : (m : Mark) (a b old : ℕ)
    → Follows m (n_of old) (leb 32768 (a % 65536) || (not (ltb (biased b) (biased a)) && n_of old)) (leb (half 1) (check a b old).value) → Obeys (row kept m undefined undefined undefined) 1 old (check a b old)
unfolding check
check_obeys m a b old f = obeys_of_flags _ _ _ _ _ _ _ _ _ refl f refl refl refl

decimal_obeys : (t old : ℕ) (c : Bool) → Obeys decimal_row 0 old (decimal_result t c old)
unfolding decimal_result by_size
decimal_obeys t old c = obeys_of_flags _ _ _ _ _ _ _ _ _ refl refl refl refl tt

-- every entry of a list is kept to
infixr 67 ◌▸◌
data AllKeptTo : List Entry → Type 0 where
  none : AllKeptTo []
  ◌▸◌ : {e : Entry} {es : List Entry} → KeptTo e → AllKeptTo es → AllKeptTo (e ∷ es)

rows_hold : AllKeptTo rows
unfolding decimal_add decimal_subtract multiply_signed divide_signed divide_unsigned by_kind
rows_hold =
    (λ o old h. concluded_obeys _ _ _ (sum_sign _ _ _ _))
    ▸ (λ o old h. concluded_obeys _ _ _ (difference_sign _ _ _ _))
    ▸ (λ o old h. concluded_obeys _ _ _ (difference_sign _ _ _ _))
    ▸ (λ o old h. continued_obeys _ _ _ (sum_sign _ _ _ _))
    ▸ (λ o old h. continued_obeys _ _ _ (difference_sign _ _ _ _))
    ▸ (λ o old h. continued_obeys _ _ _ (difference_sign _ _ _ _))
    ▸ (λ o old h. compare_obeys _ _ _ _)
    ▸ (λ o old h. moved_obeys _ _ _)
    ▸ (λ o old h. moved_obeys _ _ _)
    ▸ (λ o old h. clear_obeys _ _)
    ▸ (λ o old h. moved_obeys _ _ _)
    ▸ (λ o old h. moved_obeys _ _ _)
    ▸ (λ o old h. moved_obeys _ _ _)
    ▸ (λ o old h. moved_obeys _ _ _)
    ▸ (λ o old h. moved_obeys _ _ _)
    ▸ (λ o old h. moved_obeys _ _ _)
    ▸ (λ o old h. tas_obeys _ _)
    ▸ (λ o old h. bit_obeys _ _ _ _ _)
    ▸ (λ o old h. check_obeys set_to_1 _ _ _ (n_below (below o) (above o) _ h))
    ▸ (λ o old h. check_obeys cleared _ _ _ (n_above (below o) (above o) _ h))
    ▸ (λ o old h. check_obeys undefined _ _ _ (n_within (below o) (above o) _ h))
    ▸ (λ o old h. decimal_obeys _ _ _)
    ▸ (λ o old h. decimal_obeys _ _ _)
    ▸ (λ o old h. decimal_obeys _ _ _)
    ▸ (λ o old h. product_obeys _ _)
    ▸ (λ o old h. product_obeys _ _)
    ▸ (λ o old h. quotient_obeys (no_divisor o) (outside_signed o) _ _ _ _ h)
    ▸ (λ o old h. quotient_obeys (no_divisor o) (outside_unsigned o) _ _ _ _ h)
    ▸ (λ o old h. overflow_obeys (no_divisor o) (outside_signed o) _ _ _ _ h)
    ▸ (λ o old h. overflow_obeys (no_divisor o) (outside_unsigned o) _ _ _ _ h)
    ▸ (λ o old h. zero_obeys (no_divisor o) (outside_signed o) _ _ _ _ h)
    ▸ (λ o old h. zero_obeys (no_divisor o) (outside_unsigned o) _ _ _ _ h)
    ▸ (λ o old h. arithmetic_left_obeys _ _ _ _ h)
    ▸ (λ o old h. arithmetic_right_obeys _ _ _ _ h)
    ▸ (λ o old h. still_obeys _ _ _ _ _ _ h cleared refl)
    ▸ (λ o old h. logical_obeys _ _ _ _ _ h)
    ▸ (λ o old h. still_obeys _ _ _ _ _ _ h cleared refl)
    ▸ (λ o old h. extend_obeys _ _ _ _ _)
    ▸ (λ o old h. still_obeys _ _ _ _ _ _ h by_formula tt)
    ▸ (λ o old h. rotate_obeys _ _ _ _ _)
    ▸ (λ o old h. still_obeys _ _ _ _ _ _ h cleared refl)
    ▸ none

all_at : (es : List Entry) (d : Entry) → AllKeptTo es → (i : ℕ) → i < length es → KeptTo (get_or es i d)
all_at [] d p i h = absurd (omega arith)
all_at (e ∷ es) d (p ▸ ps) zero h = p
all_at (e ∷ es) d (p ▸ ps) (suc i) h = all_at es d ps i (omega arith)

-- the flags of every instruction obey its row
pub flags_obey_rows : (d : Entry) (i : ℕ) → i < length rows → KeptTo (get_or rows i d)
flags_obey_rows d i h = all_at rows d rows_hold i h
