-- MultiplyDivide.antt - MULS, MULU, DIVS, DIVU: result and flags. The signed two are on signed numbers, of ℤ.
-- Not here: the trap of a zero divisor. A dividend of -2^31 by -1 is an overflow like any other.
-- Laws: proofs/SignedLaws.antt, proofs/ResultLaws.antt.  Source: [003 B MULS MULU DIVS DIVU], [01 Arithmetic], [01 step 5].
use Rattle.std.specs.Prelude.{ℕ, ◌+◌, ◌*◌, ◌%◌, ◌^◌, ◌/◌, Bool, true, false, ◌||◌, ltb, leb, eqb, ℤ, pos, negsuc, ◌*ℤ◌}
use Rattle.std.specs.Int.Signed.{lt_z, quot_z, rem_z}
use Rattle.std.specs.Int.{w16, w32, w64}
use Rattle.std.proofs.Common.{to_z, of_z}
use Rattle.bits.specs.Bits.{pick}
use Rattle.flags.specs.Flags.{flags, x_of, n_of, z_of}
use Rattle.flags.specs.declared.Flagged.{Flagged}
use Rattle.multiply_divide.specs.declared.Divided.{Divided}

-- a long read as a signed number: DIVS's dividend  [003 2.2] [003 B DIVS]
unfoldable pub signed_long : ℕ → ℤ
signed_long x = to_z w32 x

-- the low word read as a signed number: a factor, a divisor  [003 2.2] [003 B MULS DIVS]
unfoldable pub signed_word : ℕ → ℤ
signed_word x = to_z w16 (x % 65536)

-- the low 32 bits of a signed number: a long  [003 2.2]
unfoldable pub low_long : ℤ → ℕ
low_long z = of_z w64 z % 2 ^ 32

-- below -32,768 or above 32,767  [01 Arithmetic]
unfoldable pub outside_word : ℤ → Bool
outside_word q = lt_z q (negsuc 32767) || lt_z (pos 32767) q

-- N and Z by the 32-bit product; V and C cleared, X kept  [003 B MULS MULU]
unfoldable pub product_result : ℕ → ℕ → Flagged
product_result v old = record { value = v; ccr = flags (x_of old) (leb 2147483648 v) (eqb v 0) false false }

-- the product of two words, as signed numbers  [003 B MULS]
unfoldable pub multiply_signed : ℕ → ℕ → ℕ → Flagged
multiply_signed a b old = product_result (low_long (signed_word a *ℤ signed_word b)) old

-- the product of two words  [003 B MULU]
abbrev pub multiply_unsigned : ℕ → ℕ → ℕ → Flagged
multiply_unsigned a b old = product_result (a % 65536 * (b % 65536)) old

-- a divisor of 0: the register stays, N Z V C cleared, X kept  [01 step 5]
unfoldable pub zero_divide : ℕ → ℕ → Divided
zero_divide a old = record { value = a; ccr = flags (x_of old) false false false false; zero = true }

-- a quotient outside its 16 bits: the register stays, V set, C cleared, N and Z kept; else remainder and quotient, N and Z by the quotient
-- [003 B DIVS DIVU] [01 Arithmetic]
unfoldable pub quotient_result : Bool → ℕ → ℕ → ℕ → ℕ → Divided
quotient_result over q r a old =
    let w = q % 65536 in
    pick over
    (record { value = a; ccr = flags (x_of old) (n_of old) (z_of old) true false; zero = false })
    (record { value = r % 65536 * 65536 + w; ccr = flags (x_of old) (leb 32768 w) (eqb w 0) false false; zero = false })

-- a long by a word: the quotient cut toward zero, the remainder with the dividend's sign  [003 B DIVS] [01 Arithmetic]
unfoldable pub divide_signed : ℕ → ℕ → ℕ → Divided
divide_signed a b old =
    let q = quot_z (signed_long a) (signed_word b) in
    let r = rem_z (signed_long a) (signed_word b) in
    pick (eqb (b % 65536) 0) (zero_divide a old) (quotient_result (outside_word q) (low_long q) (low_long r) a old)

-- a long by a word  [003 B DIVU]
unfoldable pub divide_unsigned : ℕ → ℕ → ℕ → Divided
divide_unsigned a b old =
    let w = b % 65536 in
    let q = a / w in
    pick (eqb w 0) (zero_divide a old) (quotient_result (ltb 65535 q) q (a % w) a old)
