-- OnesLaws.antt - the ones among the low bits of a number: the kit's count of them is ones_in of the library.
-- ones_bound, ones_low, ones_in_lem; ones_is, ones_few (what ones_of owes).
-- Uses: nothing above the library.
use Prim.Native.Nat.{ℕ, zero, suc, ◌%◌, ◌/◌, ◌^◌, ◌<◌, ◌≤◌}
use native.Mathlib.Omega.{arith}
use native.Mathlib.Nat.{pow-suc}
use native.Mathlib.Numerals.{add-one}
use mathlib.Core.Path.{◌≡◌, refl, ap, ◌∙◌}
use lib.Count.{ones, ones_in, ones_step}
use lib.Pow.{field, mod-mod-pow}

pub ones_bound : (d x : ℕ) → ones_in d x ≤ d
unfolding ones_in
ones_bound zero x = omega arith
ones_bound (suc d) x = omega (arith, ones_bound d (x / 2))

-- what stands above the digits that are counted does not matter
pub ones_low : (d x : ℕ) → ones_in d (x % 2 ^ d) ≡ ones_in d x
unfolding ones_in
ones_low zero x = refl
ones_low (suc d) x = cc (add-one d, field x d 1, mod-mod-pow x d 1, ones_low d (x / 2))

-- the kit's count of ones, of a number of d digits
pub ones_in_lem : (d n : ℕ) → n < 2 ^ d → ones n ≡ ones_in d n
unfolding ones ones_in
ones_in_lem zero n h = let z : n ≡ 0 = omega arith in ap ones z
ones_in_lem (suc d) n h =
    let p = pow-suc 2 d in
    let s = ones_step n in let r = ones_in_lem d (n / 2) (omega (arith, p, h)) in cc

pub ones_is : (x : ℕ) → ones (x % 65536) ≡ ones_in 16 x
ones_is x = ones_in_lem 16 (x % 65536) (omega arith) ∙ ones_low 16 x

pub ones_few : (x : ℕ) → ones (x % 65536) ≤ 16
ones_few x = omega (arith, ones_is x, ones_bound 16 x)
