-- SignedLaws.antt - signed numbers read from bits and written to bits: signed_long, signed_word, low_long, outside_word; products and quotients in 64 bits.
-- A signed number z of the code stands as `to_z w64 (of_z w64 z)`, which `back` takes to z.
-- Uses: bits.
use Prim.Native.Nat.{ℕ, zero, suc, ◌+◌, ◌*◌, ◌%◌, ◌^◌, ◌<◌, ◌≤◌, ◌/◌, ◌-◌}
use native.Mathlib.Omega.{arith}
use native.Mathlib.Nat.{div-le_self, mul-le-mul}
use mathlib.Core.Path.{◌≡◌, refl, ap, ◌∙◌}
use mathlib.Core.Bool.{Bool, true, false}
use lib.Dec.{ltb, leb, eqb, T}
use lib.IntN.{ℤ, pos, negsuc, neg_ℤ, nat_abs, ◌-ℤ◌, ◌*ℤ◌}
use lib.Signed.{mag, quot_z, rem_z, mag_rem, non_neg, lt_z}
use mir.Syntax.{w64, w32, w16}
use mir.Val.{to_z, of_z, SFits, Fits}
use mir.Facts.{to_z-of_z}
use borrow.Author.Tests.{lt-ltb, le-ltb, ltb-true, ltb-false, leb-true, leb-false, eqb-false}
use Rattle.bits.specs.Bits.{bit, sign_word}
use Rattle.multiply_divide.specs.MultiplyDivide.{signed_long, signed_word, low_long}

-- a signed number that 64 bits hold is read back from its bits
pub back : (z : ℤ) → mag z < 2 ^ 63 → to_z w64 (of_z w64 z) ≡ z
back z h = to_z-of_z {w = w64} (record { sfits = h })

pub held_bound : (z : ℤ) → SFits w64 z → mag (to_z w64 (of_z w64 z)) < 9223372036854775808
held_bound z f = rw (to_z-of_z {w = w64} f) f.sfits

nat_as_signed : (x : ℕ) → x < 2 ^ 63 → to_z w64 x ≡ pos x
nat_as_signed x h = rw (lt-ltb x (2 ^ 63) h)

-- a number below suc k, less suc k
less_than_all : (x k : ℕ) → x < suc k → pos x -ℤ pos (suc k) ≡ negsuc (suc k - suc x)
less_than_all x k h = rw (lt-ltb x (suc k) h)

-- the two returns of `signed_long`
module _ (x : ℕ) where
  module _ (t : ltb x 2147483648 ≡ true) where
    small : to_z w64 x ≡ pos x
    small = let h : x < 2147483648 = ltb-true _ _ t in nat_as_signed x (omega arith)

    pub signed_long_when_small : to_z w64 x ≡ signed_long x
    unfolding signed_long
    signed_long_when_small = small ∙ (rw t)

    pub small_bound : mag (to_z w64 x) < 2147483648
    small_bound = rw small (ltb-true _ _ t)

  module _ (f : x < 2 ^ 32) (t : ltb x 2147483648 ≡ false) where
    big : to_z w64 x -ℤ pos 4294967296 ≡ negsuc (4294967296 - suc x)
    big = rw (nat_as_signed x (omega arith)) (less_than_all x 4294967295 (omega arith))

    mag_big : mag (to_z w64 x -ℤ pos 4294967296) < 2147483648
    mag_big = let h : 2147483648 ≤ x = ltb-false _ _ t in rw big (omega arith)

    pub big_fits : SFits w64 (to_z w64 x -ℤ pos 4294967296)
    big_fits = record { sfits = let h = mag_big in omega arith }

    pub signed_long_when_big : to_z w64 (of_z w64 (to_z w64 x -ℤ pos 4294967296)) ≡ signed_long x
    unfolding signed_long
    signed_long_when_big = to_z-of_z {w = w64} big_fits ∙ big ∙ rw t

    pub big_bound : mag (to_z w64 (of_z w64 (to_z w64 x -ℤ pos 4294967296))) < 2147483648
    big_bound = rw (to_z-of_z {w = w64} big_fits) mag_big

-- a word carried on to 32 bits is the same signed number
word_by_sign : (w : ℕ) (t : Bool) → w < 65536 → leb 32768 w ≡ t → to_z w32 (w + bit t * 4294901760) ≡ to_z w16 w
word_by_sign w true f e =
    let h : 32768 ≤ w = leb-true _ _ e in
    let d : 2 ^ 32 - suc (w + 4294901760) ≡ 2 ^ 16 - suc w = omega arith in
    rw (le-ltb (w + 4294901760) (2 ^ 31) (omega arith), le-ltb w (2 ^ 15) h, d)
word_by_sign w false f e =
    let h : w < 32768 = leb-false _ _ e in
    let d : w + 0 ≡ w = omega arith in
    rw (d, lt-ltb w (2 ^ 31) (omega arith), lt-ltb w (2 ^ 15) h)

long_of_sign_word : (x : ℕ) → signed_long (sign_word x) ≡ signed_word x
unfolding signed_long signed_word sign_word
long_of_sign_word x = word_by_sign (x % 65536) (leb 32768 (x % 65536)) (omega arith) refl

-- the return of `signed_word`
module _ (x w : ℕ) (r : ℤ) (ew : w ≡ sign_word x) (er : r ≡ signed_long w) (m : mag r < 2147483648) where
  pub signed_word_is : to_z w64 (of_z w64 r) ≡ signed_word x
  signed_word_is = back r (omega arith) ∙ cc (long_of_sign_word x)

  pub word_bound : mag (to_z w64 (of_z w64 r)) < 2147483648
  word_bound = rw (back r (omega arith)) m

-- a word that is not 0 is not the signed number 0
word_some_by : (w : ℕ) (t : Bool) → ltb w 32768 ≡ t → (w ≡ 0 → ⊥) → to_z w16 w ≡ pos 0 → ⊥
word_some_by w true e n h =
    let p : to_z w16 w ≡ pos w = rw e in
    let z : w ≡ 0 = cc in n z
word_some_by w false e n h =
    let p : to_z w16 w ≡ negsuc (65536 - suc w) = rw e in
    let z : ◌≡◌ {A = ℕ} 0 1 = cc in omega arith

pub word_some : (b : ℕ) → eqb (b % 65536) 0 ≡ false → signed_word b ≡ pos 0 → ⊥
unfolding signed_word
word_some b t = word_some_by (b % 65536) (ltb (b % 65536) 32768) refl (eqb-false _ _ t)

-- a number below 0: how far it lies below -1, and its bits
negative_rest : (z : ℤ) → lt_z z (pos 0) ≡ true → negsuc 0 -ℤ z ≡ pos (mag z)
negative_rest (pos n) e = absurd (let h : n < 0 = ltb-true n 0 e in omega arith)
negative_rest (negsuc n) e = rw (le-ltb (suc n) 1 (omega arith)) (ap pos (omega arith))

negative_bits : (z : ℤ) → lt_z z (pos 0) ≡ true → 18446744073709551615 - mag z ≡ of_z w64 z
negative_bits (pos n) e = absurd (let h : n < 0 = ltb-true n 0 e in omega arith)
negative_bits (negsuc n) e = omega arith

not_negative : (z : ℤ) → lt_z z (pos 0) ≡ false → z ≡ pos (of_z w64 z)
not_negative (pos n) e = refl
not_negative (negsuc n) e = absurd (let z : ◌≡◌ {A = ℕ} 0 1 = cc in omega arith)

bits_bound : (z : ℤ) → mag z < 2 ^ 63 → of_z w64 z < 2 ^ 64
bits_bound (pos n) h = omega arith
bits_bound (negsuc n) h = omega arith

-- the two returns of `low_long`, and what they need
module _ (z : ℤ) (f : SFits w64 z) where
  here : to_z w64 (of_z w64 z) ≡ z
  here = to_z-of_z {w = w64} f

  module _ (e : lt_z (to_z w64 (of_z w64 z)) (pos 0) ≡ true) where
    rest_is : negsuc 0 -ℤ to_z w64 (of_z w64 z) ≡ pos (mag z)
    rest_is = rw here (negative_rest z (rw here at e))

    pub rest_fits : SFits w64 (negsuc 0 -ℤ to_z w64 (of_z w64 z))
    rest_fits = rw rest_is (record { sfits = f.sfits })

    rest_back : to_z w64 (of_z w64 (negsuc 0 -ℤ to_z w64 (of_z w64 z))) ≡ pos (mag z)
    rest_back = to_z-of_z {w = w64} rest_fits ∙ rest_is

    pub rest_sign : T (non_neg (to_z w64 (of_z w64 (negsuc 0 -ℤ to_z w64 (of_z w64 z)))))
    rest_sign = rw rest_back tt

    pub rest_cast : Fits w64 (nat_abs (to_z w64 (of_z w64 (negsuc 0 -ℤ to_z w64 (of_z w64 z)))))
    rest_cast = rw rest_back (record { fits = let h = f.sfits in omega arith })

    pub rest_bound : nat_abs (to_z w64 (of_z w64 (negsuc 0 -ℤ to_z w64 (of_z w64 z)))) ≤ 18446744073709551615
    rest_bound = rw rest_back (let h = f.sfits in omega arith)

    pub low_long_when_negative : (18446744073709551615 - nat_abs (to_z w64 (of_z w64 (negsuc 0 -ℤ to_z w64 (of_z w64 z))))) % 4294967296 ≡ low_long z
    unfolding low_long
    low_long_when_negative = rw (rest_back, negative_bits z (rw here at e))

  module _ (e : lt_z (to_z w64 (of_z w64 z)) (pos 0) ≡ false) where
    plain : to_z w64 (of_z w64 z) ≡ pos (of_z w64 z)
    plain = here ∙ not_negative z (rw here at e)

    pub plain_sign : T (non_neg (to_z w64 (of_z w64 z)))
    plain_sign = rw plain tt

    pub plain_cast : Fits w64 (nat_abs (to_z w64 (of_z w64 z)))
    plain_cast = rw plain (record { fits = bits_bound z f.sfits })

    pub low_long_when_not : nat_abs (to_z w64 (of_z w64 z)) % 4294967296 ≡ low_long z
    unfolding low_long
    low_long_when_not = rw plain

-- products and quotients fit 64 bits
mag_negated : (r : ℕ) → mag (neg_ℤ (pos r)) ≤ r
mag_negated zero = omega arith
mag_negated (suc r) = omega arith

mag_product : (a b : ℤ) → mag (a *ℤ b) ≤ suc (mag a) * suc (mag b)
mag_product (pos a) (pos b) = let h : a * b ≤ suc a * suc b = omega arith in h
mag_product (pos a) (negsuc b) = let k = mag_negated (a * suc b) in omega arith
mag_product (negsuc a) (pos b) = let k = mag_negated (suc a * b) in omega arith
mag_product (negsuc a) (negsuc b) = omega arith

mag_quotient : (a b : ℤ) → mag (quot_z a b) ≤ suc (mag a)
mag_quotient (pos a) (pos b) = let h = div-le_self a b in omega arith
mag_quotient (pos a) (negsuc b) = let h = div-le_self a (suc b) in let k = mag_negated (a / suc b) in omega arith
mag_quotient (negsuc a) (pos b) = let h = div-le_self (suc a) b in let k = mag_negated (suc a / b) in omega arith
mag_quotient (negsuc a) (negsuc b) = let h = div-le_self (suc a) (suc b) in omega arith

module _ (a b : ℤ) (ha : mag a < 2147483648) where
  pub quotient_fits : SFits w64 (quot_z a b)
  quotient_fits = record { sfits = let h = mag_quotient a b in omega arith }

  pub remainder_fits : SFits w64 (rem_z a b)
  remainder_fits = record { sfits = let h = mag_rem a b in omega arith }

  pub product_fits : mag b < 2147483648 → SFits w64 (a *ℤ b)
  product_fits hb = record { sfits = let h = mag_product a b in let k : suc (mag a) * suc (mag b) ≤ 2147483648 * 2147483648 = mul-le-mul ha hb in omega arith }

pub divisor_bits : (b : ℤ) → SFits w64 b → (b ≡ pos 0 → ⊥) → 0 < of_z w64 b
divisor_bits (pos zero) f n = absurd (n refl)
divisor_bits (pos (suc b)) f n = omega arith
divisor_bits (negsuc b) f n = let h = f.sfits in omega arith
