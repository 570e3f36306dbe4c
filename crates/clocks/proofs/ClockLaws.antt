-- ClockLaws.antt - one law for each return of the functions of the crate timing.
-- place-..; operand_is; general_register, -immediate, -memory; NAME-is for each rule.
-- Uses: bits, flags, bus, operand, bitwise.
use Prim.Native.Nat.{ℕ, ◌+◌, ◌*◌, ◌%◌, ◌/◌, ◌<◌, ◌≤◌}
use native.Mathlib.Omega.{arith}
use native.Mathlib.Nat.{mul-le-mul_right}
use mir.Syntax.{w32}
use mir.Val.{Fits}
use mathlib.Core.Path.{◌≡◌}
use mathlib.Core.Bool.{Bool, true, false}
use mathlib.Core.List.{List}
use lib.ListN.{get_or}
use lib.Dec.{ltb, eqb}
use lib.Bits.{bit_xor}
use lib.Count.{ones_in}
use Rattle.bits.specs.Bits.{bit}
use Rattle.flags.specs.Flags.{condition}
use Rattle.bus.specs.declared.Flow.{Flow}
use Rattle.bus.specs.declared.Fetched.{Fetched}
use Rattle.bus.specs.Bus.{View, next_word}
use Rattle.operand.specs.declared.Operand.{Operand}
use Rattle.operand.specs.Operands.{get, locate, load}
use Rattle.bitwise.specs.Bitwise.{shift_count}
use Rattle.clocks.specs.Tables.{operand_table, lea_table, jmp_table, store_table, load_table, bit_table, exception_table}
use Rattle.clocks.specs.Clocks.{place, place_of, operand_clocks, by_long, general, sized, addressed, narrow, paired, peripheral}
use Rattle.clocks.specs.Clocks.{located, jumped, listed, stored, loaded, factor, signed, unsigned, shifted, bit_clocks}
use Rattle.clocks.specs.Clocks.{branched, counted_by, counted, conditional, exception_clocks}
use Rattle.clocks.proofs.FieldLaws.{register_time, direct_register, direct_immediate, direct_memory}

module _ (mode n : ℕ) where
  pub place_plain : ltb mode 7 ≡ true → mode ≡ place mode n
  unfolding place
  place_plain h = cc

  pub place_special : ltb mode 7 ≡ false → 7 + n % 8 ≡ place mode n
  unfolding place
  place_special h = cc

pub operand_is : (op p b x : ℕ) (long : Bool) → p ≡ place_of op → b ≡ bit long → x ≡ get_or operand_table (p * 2 + b) 0 → x ≡ operand_clocks op long
unfolding operand_clocks
operand_is op p b x long e1 e2 e3 = cc

-- ---- lines by size and operand

-- x is the time of the line, w the same as a wider number, t the operand's, u the same as a wider number
module _ (a b c d op : ℕ) (long : Bool) where
  pub general_register : (x w : ℕ) → eqb (op / 16 % 4) 0 ≡ true → x ≡ by_long a b long → w ≡ x → w ≡ general a b c d op long
  unfolding general
  general_register x w h e1 e2 =
      let d0 = direct_register op h in let t0 = register_time op long h in
      let g : general a b c d op long ≡ by_long a b long + 0 = cc in omega (arith, g, e1, e2)

  module _ (x w t u : ℕ) (h : eqb (op / 16 % 4) 0 ≡ false) (e3 : t ≡ operand_clocks op long) (e4 : u ≡ t) where
    pub general_immediate : eqb (op % 64) 60 ≡ true → x ≡ by_long a b long → w ≡ x → w + u ≡ general a b c d op long
    unfolding general
    general_immediate k e1 e2 = let d0 = direct_immediate op h k in cc

    pub general_memory : eqb (op % 64) 60 ≡ false → x ≡ by_long c d long → w ≡ x → w + u ≡ general a b c d op long
    unfolding general
    general_memory k e1 e2 = let d0 = direct_memory op h k in cc

module _ (a b c d op n : ℕ) where
  pub sized_is : n ≡ general a b c d op (eqb (op / 128 % 2) 1) → n ≡ sized a b c d op
  unfolding sized
  sized_is e = cc

  pub addressed_is : n ≡ general a b c d op (eqb (op / 256 % 2) 1) → n ≡ addressed a b c d op
  unfolding addressed
  addressed_is e = cc

  module _ (x : ℕ) (e2 : n ≡ x) where
    pub paired_registers : eqb (op / 8 % 2) 0 ≡ true → x ≡ by_long a b (eqb (op / 128 % 2) 1) → n ≡ paired a b c d op
    unfolding paired
    paired_registers h e = cc

    pub paired_memory : eqb (op / 8 % 2) 0 ≡ false → x ≡ by_long c d (eqb (op / 128 % 2) 1) → n ≡ paired a b c d op
    unfolding paired
    paired_memory h e = cc

module _ (a b op n : ℕ) where
  pub narrow_is : n ≡ general a a b b op false → n ≡ narrow a b op
  unfolding narrow
  narrow_is e = cc

  pub peripheral_is : (x : ℕ) → x ≡ by_long a b (eqb (op / 64 % 2) 1) → n ≡ x → n ≡ peripheral a b op
  unfolding peripheral
  peripheral_is x e1 e2 = cc

-- ---- lines by mode: p is the row, t what stands there, u the same as a wider number
module _ (op p t u : ℕ) (e0 : p ≡ place_of op) (e1 : u ≡ t) where
  module _ (a w : ℕ) (e2 : w ≡ a) where
    pub located_is : t ≡ get_or lea_table p 0 → w + u ≡ located a op
    unfolding located
    located_is e = cc

    pub jumped_is : t ≡ get_or jmp_table p 0 → w + u ≡ jumped a op
    unfolding jumped
    jumped_is e = cc

  module _ (a b n : ℕ) (v : View) (f : Flow) (e3 : n ≡ listed a b v op f) where
    pub stored_is : t ≡ get_or store_table p 0 → u + n ≡ stored a b v op f
    unfolding stored
    stored_is e = cc

    pub loaded_is : t ≡ get_or load_table p 0 → u + n ≡ loaded a b v op f
    unfolding loaded
    loaded_is e = cc

pub bit_is : (op p b t u a w o s : ℕ) → p ≡ place_of op → b ≡ bit (ltb 1 p) → t ≡ get_or bit_table (op / 64 % 4 * 2 + b) 0 → u ≡ t → w ≡ a
    → o ≡ operand_clocks op false → s ≡ o → w + u + s ≡ bit_clocks a op
unfolding bit_clocks
bit_is op p b t u a w o s e1 e2 e3 e4 e5 e6 e7 = cc

-- ---- numbers that decide at run time

-- a count of ones times a byte
pub product_small : (n e : ℕ) → n ≤ 16 → e < 256 → n * e < 4096
product_small n e h k = let a : n * e ≤ 16 * e = mul-le-mul_right e (omega (arith, h)) in omega arith

pub product_fits : (n e : ℕ) → n ≤ 16 → e < 256 → Fits w32 (n * e)
product_fits n e h k = let a = product_small n e h k in record { fits = omega arith }

pub listed_is : (a b op n x e : ℕ) (v : View) (f : Flow) (w : Fetched) → w ≡ next_word v f → n ≡ ones_in 16 w.value
    → x ≡ by_long a b (eqb (op / 64 % 2) 1) → e ≡ x → n * e ≡ listed a b v op f
unfolding listed
listed_is a b op n x e v f w e1 e2 e3 e4 = cc

module _ (r : List ℕ) (v : View) (op : ℕ) (f : Flow) where
  pub factor_is : (q : Operand) (w : Fetched) → q ≡ locate r v (op / 8 % 8) (op % 8) 1 f → w ≡ load r v q 1 q.flow → w.value % 65536 ≡ factor r v op f
  unfolding factor
  factor_is q w e1 e2 = cc

  pub unsigned_is : (a g x n : ℕ) → g ≡ narrow a a op → x ≡ factor r v op f → n ≡ ones_in 16 x → g + n * 2 ≡ unsigned a r v op f
  unfolding unsigned
  unsigned_is a g x n e1 e2 e3 = cc

  pub signed_is : (a g x n : ℕ) → g ≡ narrow a a op → x ≡ factor r v op f → n ≡ ones_in 16 (bit_xor x (x * 2 % 65536)) → g + n * 2 ≡ signed a r v op f
  unfolding signed
  signed_is a g x n e1 e2 e3 = cc

pub shifted_is : (r : List ℕ) (op a b x w n : ℕ) → x ≡ by_long a b (eqb (op / 128 % 2) 1) → w ≡ x → n ≡ shift_count r op → w + n % 64 * 2 ≡ shifted a b r op
unfolding shifted
shifted_is r op a b x w n e1 e2 e3 = cc

-- ---- conditions

module _ (a b c op : ℕ) (f : Flow) (h : Bool) (e0 : h ≡ condition f.sr (op / 256)) where
  module _ (w : ℕ) where
    pub branched_taken : h ≡ true → w ≡ a → w ≡ branched a b c op f
    unfolding branched
    branched_taken k e = cc

    pub branched_word : h ≡ false → eqb (op % 256) 0 ≡ true → w ≡ c → w ≡ branched a b c op f
    unfolding branched
    branched_word k g e = cc

    pub branched_byte : h ≡ false → eqb (op % 256) 0 ≡ false → w ≡ b → w ≡ branched a b c op f
    unfolding branched
    branched_byte k g e = cc

    module _ (spent : Bool) where
      pub counted_ended : h ≡ true → w ≡ a → w ≡ counted_by a b c spent op f
      unfolding counted_by
      counted_ended k e = cc

      pub counted_on : (x : ℕ) → h ≡ false → x ≡ by_long b c spent → w ≡ x → w ≡ counted_by a b c spent op f
      unfolding counted_by
      counted_on x k e1 e2 = cc

  pub conditional_is : (x n : ℕ) → x ≡ by_long a b h → n ≡ narrow x c op → n ≡ conditional a b c op f
  unfolding conditional
  conditional_is x n e1 e2 = cc

pub counted_is : (a b c op x n : ℕ) (r : List ℕ) (f : Flow) → x ≡ get r (op % 8) → n ≡ counted_by a b c (eqb (x % 65536) 0) op f → n ≡ counted a b c r op f
unfolding counted
counted_is a b c op x n r f e1 e2 = cc

-- ---- exceptions

module _ (vec op t w : ℕ) (e1 : t ≡ get_or exception_table vec 38) (e2 : w ≡ t) where
  pub exception_bounds : (o s : ℕ) → eqb vec 6 ≡ true → o ≡ operand_clocks op false → s ≡ o → w + s ≡ exception_clocks vec op
  unfolding exception_clocks
  exception_bounds o s h e3 e4 = cc

  pub exception_plain : eqb vec 6 ≡ false → w ≡ exception_clocks vec op
  unfolding exception_clocks
  exception_plain h = let g : exception_clocks vec op ≡ get_or exception_table vec 38 + 0 = cc in omega (arith, g, e1, e2)
