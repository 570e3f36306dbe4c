-- StatusLaws.antt - the test of refusal 2 on SR holds exactly where SR is what the bits of $A71F leave of it, by division and as a mask.
-- * status_bits, sr_bits_is_mask, status_mask.
-- Source: [01 State], [01 Calls, table].
use Prim.Native.Nat.{ℕ, ◌+◌, ◌*◌, ◌/◌, ◌%◌, ◌-◌, ◌^◌, ◌<◌}
use mathlib.Core.Path.{◌≡◌, refl, sym, ap, ◌∙◌}
use mathlib.Core.Logic.{◌↔◌}
use mathlib.Core.Bool.{true}
use native.Mathlib.Omega.{arith}
use native.Mathlib.Nat.{mod-lt, mod-mod, div-add-mod'}
use lib.Bits.{bit_and, and_block, and_mask, and_zero_r}
use lib.Pow.{pow_pos}
use borrow.Author.Tests.{eqb-true, eq-eqb}
use Rattle.flags.specs.Flags.{sr_bits}
use Rattle.record.specs.Limits.{valid_status}

sum_iff : (x0 x5 x8 x11 x13 x14 x15 x16 : ℕ)
    → ((x5 + x11 + x14 + x16 ≡ 0) ↔ (x0 + x8 * 256 + x13 * 8192 + x15 * 32768 ≡ x0 + (x5 + (x8 + (x11 + (x13 + (x14 + (x15 + x16 * 2) * 2) * 2) * 4) * 8) * 8) * 32))
sum_iff x0 x5 x8 x11 x13 x14 x15 x16 = (λ z. omega arith, λ z. omega arith)

split : (v : ℕ) → v ≡ v % 32 + (v / 32 % 8 + (v / 256 % 8 + (v / 2048 % 4 + (v / 8192 % 2 + (v / 16384 % 2 + (v / 32768 % 2 + v / 65536 * 2) * 2) * 2) * 4) * 8) * 8) * 32
split v =
    let a : v ≡ v % 32 + v / 32 * 32 = omega arith in
    let b : v / 32 ≡ v / 32 % 8 + v / 256 * 8 = omega arith in
    let c : v / 256 ≡ v / 256 % 8 + v / 2048 * 8 = omega arith in
    let d : v / 2048 ≡ v / 2048 % 4 + v / 8192 * 4 = omega arith in
    let e : v / 8192 ≡ v / 8192 % 2 + v / 16384 * 2 = omega arith in
    let f : v / 16384 ≡ v / 16384 % 2 + v / 32768 * 2 = omega arith in
    let g : v / 32768 ≡ v / 32768 % 2 + v / 65536 * 2 = omega arith in
    a
    ∙ ap (λ (y : ℕ). v % 32 + y * 32) (b
    ∙ ap (λ (y : ℕ). v / 32 % 8 + y * 8) (c
    ∙ ap (λ (y : ℕ). v / 256 % 8 + y * 8) (d
    ∙ ap (λ (y : ℕ). v / 2048 % 4 + y * 4) (e
    ∙ ap (λ (y : ℕ). v / 8192 % 2 + y * 2) (f
    ∙ ap (λ (y : ℕ). v / 16384 % 2 + y * 2) g)))))

pub status_bits : (v : ℕ) → ((valid_status v ≡ true) ↔ (sr_bits v ≡ v))
status_bits v =
    let iff = sum_iff (v % 32) (v / 32 % 8) (v / 256 % 8) (v / 2048 % 4) (v / 8192 % 2) (v / 16384 % 2) (v / 32768 % 2) (v / 65536) in (
      λ e. iff.0 (eqb-true (v / 32 % 8 + v / 2048 % 4 + v / 16384 % 2 + v / 65536) 0 e) ∙ sym (split v),
      λ e. eq-eqb (v / 32 % 8 + v / 2048 % 4 + v / 16384 % 2 + v / 65536) 0 (iff.1 (e ∙ split v)),
    )

-- ---- as a mask
-- u is v without its k low bits, which the mask has whole, or has not
module _ (k v u b : ℕ) (e : v / 2 ^ k ≡ u) where
  apart : (s : ℕ) → s < 2 ^ k → bit_and v (b * 2 ^ k + s) ≡ bit_and u b * 2 ^ k + bit_and (v % 2 ^ k) s
  apart s h =
      ap (λ (x : ℕ). bit_and x (b * 2 ^ k + s)) (sym (div-add-mod' v (2 ^ k)))
      ∙ and_block k (v / 2 ^ k) b (v % 2 ^ k) s (mod-lt v (pow_pos k)) h
      ∙ ap (λ (x : ℕ). bit_and x b * 2 ^ k + bit_and (v % 2 ^ k) s) e

  low_ones : bit_and v (b * 2 ^ k + (2 ^ k - 1)) ≡ bit_and u b * 2 ^ k + v % 2 ^ k
  low_ones =
      apart (2 ^ k - 1) (omega (arith, pow_pos k)) ∙ ap (λ (x : ℕ). bit_and u b * 2 ^ k + x) (and_mask (v % 2 ^ k) k ∙ mod-mod v (2 ^ k))

  low_zeros : bit_and v (b * 2 ^ k + 0) ≡ bit_and u b * 2 ^ k + 0
  low_zeros = apart 0 (pow_pos k) ∙ ap (λ (x : ℕ). bit_and u b * 2 ^ k + x) (and_zero_r (v % 2 ^ k))

sum_of_fields : (a b c d e f g x0 x8 x13 x15 : ℕ)
    → a ≡ b * 32 + x0 → b ≡ c * 8 + 0 → c ≡ d * 8 + x8 → d ≡ e * 4 + 0 → e ≡ f * 2 + x13 → f ≡ g * 2 + 0 → g ≡ x15
    → x0 + x8 * 256 + x13 * 8192 + x15 * 32768 ≡ a
sum_of_fields a b c d e f g x0 x8 x13 x15 p q r s t u w = omega arith

-- the bits that SR has are those of the mask  [01 State]
pub sr_bits_is_mask : (v : ℕ) → sr_bits v ≡ bit_and v 0xA71F
sr_bits_is_mask v =
    sum_of_fields _ _ _ _ _ _ _ _ _ _ _
    (low_ones 5 v (v / 32) 0x538 refl) (low_zeros 3 (v / 32) (v / 256) 0xA7 (omega arith)) (low_ones 3 (v / 256) (v / 2048) 20 (omega arith))
    (low_zeros 2 (v / 2048) (v / 8192) 5 (omega arith)) (low_ones 1 (v / 8192) (v / 16384) 2 (omega arith))
    (low_zeros 1 (v / 16384) (v / 32768) 1 (omega arith)) (and_mask (v / 32768) 1)

-- SR has no bit outside $A71F  [01 Calls, table]
pub status_mask : (v : ℕ) → ((valid_status v ≡ true) ↔ (bit_and v 0xA71F ≡ v))
status_mask v = (λ e. sym (sr_bits_is_mask v) ∙ (status_bits v).0 e, λ e. (status_bits v).1 (sr_bits_is_mask v ∙ e))
