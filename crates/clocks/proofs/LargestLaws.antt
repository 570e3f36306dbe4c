-- LargestLaws.antt - no instruction takes more than 170 clocks, and no exception of an instruction more than 56.
-- operand_bound, short_bound: an effective address; within: a test of a line's times by its rule; clocks_bound, exception_bound: the theorems.
-- Uses: bits, flags, bus, operand.
use Prim.Native.Nat.{ℕ, zero, suc, ◌+◌, ◌*◌, ◌%◌, ◌/◌, ◌≤◌}
use native.Mathlib.Omega.{arith}
use native.Mathlib.Nat.{mul-le-mul_left, mul-le-mul_right}
use mathlib.Core.Path.{◌≡◌, refl, sym, subst}
use mathlib.Core.Bool.{Bool, true, false, ◌&&◌}
use mathlib.Core.List.{List, [], ◌∷◌}
use lib.ListN.{get_or}
use lib.Dec.{ltb, leb, eqb}
use lib.Bits.{bit_xor}
use lib.Count.{ones_in}
use borrow.Author.Tests.{leb-true, eqb-true}
use Rattle.bits.specs.Bits.{pick, bit}
use Rattle.bits.proofs.BitsLaws.{and_left, and_right, pick_cases}
use Rattle.bits.proofs.OnesLaws.{ones_bound}
use Rattle.flags.specs.Flags.{condition}
use Rattle.bus.specs.declared.Flow.{Flow}
use Rattle.bus.specs.Bus.{View, next_word}
use Rattle.operand.specs.Operands.{get}
use Rattle.clocks.specs.Tables.{operand_table, destination_table, lea_table, jmp_table, store_table, load_table, bit_table, exception_table, trap_line}
use Rattle.clocks.specs.Clocks.{place, place_of, operand_clocks, direct, by_long, general, sized, addressed, narrow, paired, peripheral, moved}
use Rattle.clocks.specs.Clocks.{located, jumped, listed, stored, loaded, factor, signed, unsigned, shifted, bit_clocks}
use Rattle.clocks.specs.Clocks.{branched, counted_by, counted, conditional, exception_clocks}
use Rattle.clocks.specs.Lines.{Line, Alone, Sized, Addressed, Paired, Narrow, Peripheral, Stored, Loaded, Shifted, Moved, Located, Jumped}
use Rattle.clocks.specs.Lines.{Signed, Unsigned, Bits, Branched, Counted, Conditional, time, lines, last_line, clocks}

-- a number that is at most x
abbrev AtMost : ℕ → ℕ → Type 0
AtMost x n = n ≤ x

-- ---- tables

-- every entry of a table is at most x
at_most : ℕ → List ℕ → Bool
at_most x [] = true
at_most x (y ∷ ys) = leb y x && at_most x ys

entry_at_most : (x : ℕ) (ys : List ℕ) (d i : ℕ) → at_most x ys ≡ true → d ≤ x → get_or ys i d ≤ x
unfolding at_most
entry_at_most x [] d i h l = l
entry_at_most x (y ∷ ys) d zero h l = leb-true y x (and_left (leb y x) (at_most x ys) h)
entry_at_most x (y ∷ ys) d (suc i) h l = entry_at_most x ys d i (and_right (leb y x) (at_most x ys) h) l

-- every second entry, from the first on
firsts_at_most : ℕ → List ℕ → Bool
firsts_at_most x [] = true
firsts_at_most x (y ∷ []) = false
firsts_at_most x (y ∷ z ∷ ys) = leb y x && firsts_at_most x ys

first_at_most : (x : ℕ) (ys : List ℕ) (i : ℕ) → firsts_at_most x ys ≡ true → get_or ys (i * 2) 0 ≤ x
unfolding firsts_at_most
first_at_most x [] i h = omega arith
first_at_most x (y ∷ []) i h = absurd (let z : ◌≡◌ {A = ℕ} 0 1 = cc in omega arith)
first_at_most x (y ∷ z ∷ ys) zero h = leb-true y x (and_left (leb y x) (firsts_at_most x ys) h)
first_at_most x (y ∷ z ∷ ys) (suc i) h =
    let e : suc i * 2 ≡ suc (suc (i * 2)) = omega arith in
    subst (λ (k : ℕ). get_or (y ∷ z ∷ ys) k 0 ≤ x) (sym e) (first_at_most x ys i (and_right (leb y x) (firsts_at_most x ys) h))

pub operand_bound : (op : ℕ) (long : Bool) → operand_clocks op long ≤ 16
unfolding operand_clocks at_most
operand_bound op long = entry_at_most 16 operand_table 0 (place_of op * 2 + bit long) refl (omega arith)

pub short_bound : (op : ℕ) → operand_clocks op false ≤ 12
unfolding operand_clocks firsts_at_most
short_bound op =
    let e : place_of op * 2 + 0 ≡ place_of op * 2 = omega arith in
    subst (λ (i : ℕ). get_or operand_table i 0 ≤ 12) (sym e) (first_at_most 12 operand_table (place_of op) refl)

-- ---- rules: a bound of the times is one of the clocks

module _ (x a b : ℕ) (p : a ≤ x) (q : b ≤ x) where
  long_bound : (long : Bool) → by_long a b long ≤ x
  long_bound long = pick_cases (AtMost x) long {x = b} {y = a} q p

  narrow_bound : (op : ℕ) → narrow a b op ≤ x + 12
  unfolding narrow general
  narrow_bound op =
      let o = short_bound op in let e = pick_cases (AtMost x) (direct op) {x = by_long a a false} {y = by_long b b false} p q in omega arith

  listed_bound : (v : View) (op : ℕ) (f : Flow) → listed a b v op f ≤ 16 * x
  unfolding listed
  listed_bound v op f =
      let n = ones_in 16 (next_word v f).value in
      let e = by_long a b (eqb (op / 64 % 2) 1) in
      let l : n * e ≤ n * x = mul-le-mul_left n (long_bound (eqb (op / 64 % 2) 1)) in
      let m : n * x ≤ 16 * x = mul-le-mul_right x (ones_bound 16 (next_word v f).value) in omega arith

module _ (x a b c d : ℕ) (p : a ≤ x) (q : b ≤ x) (s : c ≤ x) (t : d ≤ x) where
  general_bound : (op : ℕ) (long : Bool) → general a b c d op long ≤ x + 16
  unfolding general
  general_bound op long =
      let o = operand_bound op long in
      let e = pick_cases (AtMost x) (direct op) {x = by_long a b long} {y = by_long c d long} (long_bound x a b p q long) (long_bound x c d s t long) in omega arith

  paired_bound : (op : ℕ) → paired a b c d op ≤ x
  unfolding paired
  paired_bound op =
      let long = eqb (op / 128 % 2) 1 in
      pick_cases (AtMost x) (eqb (op / 8 % 2) 0) {x = by_long a b long} {y = by_long c d long} (long_bound x a b p q long) (long_bound x c d s t long)

moved_bound : (op : ℕ) → moved op ≤ 170
unfolding moved at_most
moved_bound op =
    let long = eqb (op / 4096) 2 in
    let o = operand_bound op long in
    let t = entry_at_most 20 destination_table 0 (place (op / 64 % 8) (op / 512 % 8) * 2 + bit long) refl (omega arith) in omega arith

-- ---- lines

-- a test of a line's times by its rule: so many that no time passes 170
within : Line → Bool
within (Alone a) = leb a 170
within (Sized a b c d) = leb a 154 && (leb b 154 && (leb c 154 && leb d 154))
within (Addressed a b c d) = leb a 154 && (leb b 154 && (leb c 154 && leb d 154))
within (Paired a b c d) = leb a 170 && (leb b 170 && (leb c 170 && leb d 170))
within (Narrow a c) = leb a 158 && leb c 158
within (Peripheral a b) = leb a 170 && leb b 170
within (Stored a b) = leb a 8 && leb b 8
within (Loaded a b) = leb a 8 && leb b 8
within (Shifted a b) = leb a 44 && leb b 44
within Moved = true
within (Located a) = leb a 150
within (Jumped a) = leb a 150
within (Signed a) = leb a 126
within (Unsigned a) = leb a 126
within (Bits a) = leb a 140
within (Branched a b c) = leb a 170 && (leb b 170 && leb c 170)
within (Counted a b c) = leb a 170 && (leb b 170 && leb c 170)
within (Conditional a b c) = leb a 158 && (leb b 158 && leb c 158)

-- a test of two, of three, of four
module _ (x a b : ℕ) (h : (leb a x && leb b x) ≡ true) where
  one_of_two : a ≤ x
  one_of_two = leb-true a x (and_left (leb a x) (leb b x) h)

  two_of_two : b ≤ x
  two_of_two = leb-true b x (and_right (leb a x) (leb b x) h)

module _ (x a b c : ℕ) (h : (leb a x && (leb b x && leb c x)) ≡ true) where
  one_of_three : a ≤ x
  one_of_three = leb-true a x (and_left (leb a x) (leb b x && leb c x) h)

  others_of_three : (leb b x && leb c x) ≡ true
  others_of_three = and_right (leb a x) (leb b x && leb c x) h

module _ (x a b c d : ℕ) (h : (leb a x && (leb b x && (leb c x && leb d x))) ≡ true) where
  one_of_four : a ≤ x
  one_of_four = leb-true a x (and_left (leb a x) (leb b x && (leb c x && leb d x)) h)

  others_of_four : (leb b x && (leb c x && leb d x)) ≡ true
  others_of_four = and_right (leb a x) (leb b x && (leb c x && leb d x)) h

  four_general : (op : ℕ) (long : Bool) → general a b c d op long ≤ x + 16
  four_general =
      general_bound x a b c d one_of_four (one_of_three x b c d others_of_four) (one_of_two x c d (others_of_three x b c d others_of_four))
      (two_of_two x c d (others_of_three x b c d others_of_four))

  four_paired : (op : ℕ) → paired a b c d op ≤ x
  four_paired =
      paired_bound x a b c d one_of_four (one_of_three x b c d others_of_four) (one_of_two x c d (others_of_three x b c d others_of_four))
      (two_of_two x c d (others_of_three x b c d others_of_four))

time_bound : (l : Line) → within l ≡ true → (r : List ℕ) (v : View) (op : ℕ) (f : Flow) → time l r v op f ≤ 170
unfolding time within sized addressed peripheral stored loaded shifted located jumped signed unsigned bit_clocks branched counted counted_by conditional at_most
time_bound (Alone a) h r v op f = leb-true a 170 h
time_bound (Sized a b c d) h r v op f = four_general 154 a b c d h op (eqb (op / 128 % 2) 1)
time_bound (Addressed a b c d) h r v op f = four_general 154 a b c d h op (eqb (op / 256 % 2) 1)
time_bound (Paired a b c d) h r v op f = four_paired 170 a b c d h op
time_bound (Narrow a c) h r v op f = narrow_bound 158 a c (one_of_two 158 a c h) (two_of_two 158 a c h) op
time_bound (Peripheral a b) h r v op f = long_bound 170 a b (one_of_two 170 a b h) (two_of_two 170 a b h) (eqb (op / 64 % 2) 1)
time_bound (Stored a b) h r v op f =
    let t = entry_at_most 16 store_table 0 (place_of op) refl (omega arith) in
    let n = listed_bound 8 a b (one_of_two 8 a b h) (two_of_two 8 a b h) v op f in omega arith
time_bound (Loaded a b) h r v op f =
    let t = entry_at_most 20 load_table 0 (place_of op) refl (omega arith) in
    let n = listed_bound 8 a b (one_of_two 8 a b h) (two_of_two 8 a b h) v op f in omega arith
time_bound (Shifted a b) h r v op f =
    let e = long_bound 44 a b (one_of_two 44 a b h) (two_of_two 44 a b h) (eqb (op / 128 % 2) 1) in omega arith
time_bound Moved h r v op f = moved_bound op
time_bound (Located a) h r v op f =
    let t = entry_at_most 12 lea_table 0 (place_of op) refl (omega arith) in let e = leb-true a 150 h in omega arith
time_bound (Jumped a) h r v op f =
    let t = entry_at_most 14 jmp_table 0 (place_of op) refl (omega arith) in let e = leb-true a 150 h in omega arith
time_bound (Signed a) h r v op f =
    let e = leb-true a 126 h in let g = narrow_bound 126 a a e e op in
    let x = factor r v op f in let n = ones_bound 16 (bit_xor x (x * 2 % 65536)) in omega arith
time_bound (Unsigned a) h r v op f =
    let e = leb-true a 126 h in let g = narrow_bound 126 a a e e op in let n = ones_bound 16 (factor r v op f) in omega arith
time_bound (Bits a) h r v op f =
    let t = entry_at_most 10 bit_table 0 (op / 64 % 4 * 2 + bit (ltb 1 (place_of op))) refl (omega arith) in
    let o = short_bound op in let e = leb-true a 140 h in omega arith
time_bound (Branched a b c) h r v op f =
    let o = others_of_three 170 a b c h in
    pick_cases (AtMost 170) (condition f.sr (op / 256)) {x = a} {y = pick (eqb (op % 256) 0) c b} (one_of_three 170 a b c h)
    (pick_cases (AtMost 170) (eqb (op % 256) 0) {x = c} {y = b} (two_of_two 170 b c o) (one_of_two 170 b c o))
time_bound (Counted a b c) h r v op f =
    let o = others_of_three 170 a b c h in
    let spent = eqb (get r (op % 8) % 65536) 0 in
    pick_cases (AtMost 170) (condition f.sr (op / 256)) {x = a} {y = pick spent c b} (one_of_three 170 a b c h)
    (pick_cases (AtMost 170) spent {x = c} {y = b} (two_of_two 170 b c o) (one_of_two 170 b c o))
time_bound (Conditional a b c) h r v op f =
    let o = others_of_three 158 a b c h in
    let w = condition f.sr (op / 256) in
    narrow_bound 158 (pick w b a) c (pick_cases (AtMost 158) w {x = b} {y = a} (one_of_two 158 b c o) (one_of_three 158 a b c h)) (two_of_two 158 b c o) op

all_within : List (ℕ × Line) → Bool
all_within [] = true
all_within (e ∷ es) = within e.1 && all_within es

within_at : (es : List (ℕ × Line)) (d : ℕ × Line) (k : ℕ) → all_within es ≡ true → within d.1 ≡ true → within (get_or es k d).1 ≡ true
unfolding all_within
within_at [] d k h g = g
within_at (e ∷ es) d zero h g = and_left (within e.1) (all_within es) h
within_at (e ∷ es) d (suc k) h g = within_at es d k (and_right (within e.1) (all_within es) h) g

lines_within : (k : ℕ) → within (get_or lines k last_line).1 ≡ true
unfolding all_within within
lines_within k = within_at lines last_line k refl refl

-- no instruction takes more than 170 clocks  [K2]
pub clocks_bound : (k : ℕ) (r : List ℕ) (v : View) (op : ℕ) (f : Flow) → clocks k r v op f ≤ 170
unfolding clocks
clocks_bound k r v op f = time_bound (get_or lines k last_line).1 (lines_within k) r v op f

exception_by : (b : Bool) (vec op : ℕ) → eqb vec 6 ≡ b → exception_clocks vec op ≤ 56
unfolding exception_clocks at_most
exception_by true vec op h =
    let o = short_bound op in subst (λ (k : ℕ). exception_clocks k op ≤ 56) (sym (eqb-true vec 6 h)) (omega arith)
exception_by false vec op h =
    let t = entry_at_most 50 exception_table trap_line vec refl (omega arith) in
    let e : exception_clocks vec op ≡ get_or exception_table vec trap_line + 0 = cc in omega (arith, t, e)

-- no exception of an instruction more than 56: CHK's, with the dearest operand  [K2]
pub exception_bound : (vec op : ℕ) → exception_clocks vec op ≤ 56
exception_bound vec op = exception_by (eqb vec 6) vec op refl
