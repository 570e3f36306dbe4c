-- WayLaws.antt - laws of the ways: what one arm of the code's choice gives and what its `_` gives; two classes that are asked by the mode.
-- States: way_arm, way_last; mode_address, mode_last, mode_plain.
-- Uses: bits, decode, Ways.  Source: [ours].
use mathlib.Core.Path.{◌≡◌, refl, ap, ◌∙◌}
use mathlib.Core.Bool.{Bool, true, false, ◌||◌}
use mathlib.Core.List.{List}
use Prim.Native.Nat.{ℕ, ◌/◌, ◌%◌, ◌^◌}
use native.Mathlib.Omega.{arith}
use lib.Dec.{eqb}
use lib.ListN.{get_or, length}
use borrow.Author.Tests.{eqb-true, eq-eqb, ne_eqb}
use Rattle.bits.specs.Bits.{bit, all_below}
use Rattle.bits.proofs.BitsLaws.{at_below, NoneBelow, case_past}
use Rattle.decode.specs.Chain.{address_register, fit}
use Rattle.kind_table.specs.Ways.{Way, only, either, plain_modes}

module _ (ws : List Way) (d : Way) (n op r : ℕ) where
  pub way_arm : (i : ℕ) → n ≡ i → r ≡ get_or ws i d op → r ≡ get_or ws n d op
  way_arm i e h = cc

  pub way_last : NoneBelow (length ws) n → r ≡ d op → r ≡ get_or ws n d op
  way_last h e = e ∙ ap (λ (w : Way). w op) (case_past ws d d n h refl)

-- ---- by mode

-- An's class allows the low six bits exactly where the mode is 1: one computed test
address_bit : (op : ℕ) → address_register / 2 ^ (op % 64) % 2 ≡ bit (eqb (op / 8 % 8) 1)
unfolding all_below
address_bit op =
    let m : op % 64 / 8 ≡ op / 8 % 8 = omega arith in
    rw m at (eqb-true (address_register / 2 ^ (op % 64) % 2) (bit (eqb (op % 64 / 8) 1))
    (at_below (λ e. eqb (address_register / 2 ^ e % 2) (bit (eqb (e / 8) 1))) 64 refl (op % 64) (omega arith)))

third : (a b c : Bool) → a ≡ false → b ≡ false → (a || (b || c)) ≡ true → c ≡ true
third a b c p q t = rw (p, q) at t

-- a class of all modes but two allows the low six bits in each other mode
plain_bit : (class op : ℕ) → plain_modes class ≡ true → (op / 8 % 8 ≡ 1 → ⊥) → (op / 8 % 8 ≡ 7 → ⊥) → eqb (class / 2 ^ (op % 64) % 2) 1 ≡ true
plain_bit class op t p q =
    let m : op % 64 / 8 ≡ op / 8 % 8 = omega arith in
    third (eqb (op % 64 / 8) 1) (eqb (op % 64 / 8) 7) (eqb (class / 2 ^ (op % 64) % 2) 1) (rw m (ne_eqb _ _ p)) (rw m (ne_eqb _ _ q))
    (at_below (λ e. eqb (e / 8) 1 || (eqb (e / 8) 7 || eqb (class / 2 ^ e % 2) 1)) 64 t (op % 64) (omega arith))

module _ (address class kind op : ℕ) where
  pub mode_address : op / 8 % 8 ≡ 1 → address ≡ either address_register address class kind op
  unfolding fit
  mode_address e = rw (address_bit op, eq-eqb (op / 8 % 8) 1 e)

  other : (op / 8 % 8 ≡ 1 → ⊥) → either address_register address class kind op ≡ only class kind op
  unfolding fit
  other n = rw (address_bit op, ne_eqb (op / 8 % 8) 1 n)

  pub mode_last : (r : ℕ) → op / 8 % 8 ≡ 7 → r ≡ only class kind op → r ≡ either address_register address class kind op
  mode_last r e h = let o = other (λ z. omega arith) in cc

  pub mode_plain : plain_modes class ≡ true → (op / 8 % 8 ≡ 1 → ⊥) → (op / 8 % 8 ≡ 7 → ⊥) → kind ≡ either address_register address class kind op
  unfolding fit
  mode_plain t p q = let o = other p in let b = plain_bit class op t p q in rw (o, b)
