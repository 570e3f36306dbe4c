-- MarksLaws.antt - laws of specs/Marks.antt: each flag of `flags x n z v c` is its own; flags whose parts follow a row obey it.
-- x_of_flags, n_of_flags, z_of_flags, v_of_flags, c_of_flags; obeys_of_flags.
-- Uses: bits, flags.
use Prim.Native.Nat.{ℕ, ◌%◌, ◌/◌}
use native.Mathlib.Omega.{arith}
use mathlib.Core.Path.{◌≡◌}
use mathlib.Core.Bool.{Bool, true, false}
use lib.Dec.{leb, eqb}
use Rattle.bits.specs.Bits.{bit, half}
use Rattle.bits.proofs.BitsLaws.{bit_bound}
use Rattle.flags.specs.Flags.{flags, x_of, n_of, z_of, v_of, c_of}
use Rattle.flag_rows.specs.Marks.{Row, Follows, Obeys}

test_of_bit : (k : ℕ) (b : Bool) → k ≡ bit b → eqb k 1 ≡ b
test_of_bit k true e = rw e
test_of_bit k false e = rw e

module _ (x n z v c : Bool) where
  pub x_of_flags : x_of (flags x n z v c) ≡ x
  unfolding flags
  x_of_flags = test_of_bit (flags x n z v c / 16 % 2) x (omega (arith, bit_bound x, bit_bound n, bit_bound z, bit_bound v, bit_bound c))

  pub n_of_flags : n_of (flags x n z v c) ≡ n
  unfolding flags
  n_of_flags = test_of_bit (flags x n z v c / 8 % 2) n (omega (arith, bit_bound x, bit_bound n, bit_bound z, bit_bound v, bit_bound c))

  pub z_of_flags : z_of (flags x n z v c) ≡ z
  unfolding flags
  z_of_flags = test_of_bit (flags x n z v c / 4 % 2) z (omega (arith, bit_bound x, bit_bound n, bit_bound z, bit_bound v, bit_bound c))

  pub v_of_flags : v_of (flags x n z v c) ≡ v
  unfolding flags
  v_of_flags = test_of_bit (flags x n z v c / 2 % 2) v (omega (arith, bit_bound x, bit_bound n, bit_bound z, bit_bound v, bit_bound c))

  pub c_of_flags : c_of (flags x n z v c) ≡ c
  unfolding flags
  c_of_flags = test_of_bit (flags x n z v c % 2) c (omega (arith, bit_bound x, bit_bound n, bit_bound z, bit_bound v, bit_bound c))

  pub obeys_of_flags : (r : Row) (s old w : ℕ) → Follows r.x (x_of old) x c → Follows r.n (n_of old) n (leb (half s) w) → Follows r.z (z_of old) z (eqb w 0)
      → Follows r.v (v_of old) v v → Follows r.c (c_of old) c c → Obeys r s old (record { value = w; ccr = flags x n z v c })
  obeys_of_flags r s old w fx fn fz fv fc =
      record { x = rw (x_of_flags, c_of_flags) fx; n = rw n_of_flags fn; z = rw z_of_flags fz; v = rw v_of_flags fv; c = rw c_of_flags fc }
