-- Marks.antt - how a condition-code row of 003 is written down, and what it is for a result and its flags to obey it.
-- 003's * stands for three signs here: the general rule of A-1, "cleared or kept", and a formula of A-1, of which specs/Formulas.antt speaks.
-- Laws: proofs/MarksLaws.antt.  Source: [003 A.3], [003 A-1], [003 B], [01 Arithmetic].
use Rattle.std.specs.Prelude.{ℕ, ◌≡◌, Bool, true, false, ◌&&◌, leb, eqb}
use Rattle.bits.specs.Bits.{half}
use Rattle.flags.specs.declared.Flagged.{Flagged}
use Rattle.flags.specs.Flags.{x_of, n_of, z_of, v_of, c_of}

-- * by the general rule, * cleared or kept, * by a formula, - 0 1 U  [003 A.3] [003 A-1]
pub data Mark : Type 0 where
  as_result : Mark
  cleared_or_kept : Mark
  by_formula : Mark
  kept : Mark
  cleared : Mark
  set_to_1 : Mark
  undefined : Mark

-- the signs of X N Z V C  [003 A.3]
pub record Row : Type 0 where
  pub x : Mark
  pub n : Mark
  pub z : Mark
  pub v : Mark
  pub c : Mark

-- a row by its five signs  [ours]
abbrev pub row : Mark → Mark → Mark → Mark → Mark → Row
row x n z v c = record { x = x; n = n; z = z; v = v; c = c }

-- what a sign says of a flag before and after, and of the general rule for that flag; undefined keeps its value  [003 A.3] [01 Arithmetic]
abbrev pub Follows : Mark → Bool → Bool → Bool → Type 0
Follows as_result before after rule = after ≡ rule
Follows cleared_or_kept before after rule = after ≡ (before && rule)
Follows by_formula before after rule = Unit
Follows kept before after rule = after ≡ before
Follows cleared before after rule = after ≡ false
Follows set_to_1 before after rule = after ≡ true
Follows undefined before after rule = after ≡ before

-- a result of size s and its flags follow a row: the general rule is X as C, N as the top bit, Z as "is 0"  [003 A.3] [003 A-1]
pub record Obeys (r : Row) (s old : ℕ) (new : Flagged) : Type 0 where
  pub x : Follows r.x (x_of old) (x_of new.ccr) (c_of new.ccr)
  pub n : Follows r.n (n_of old) (n_of new.ccr) (leb (half s) new.value)
  pub z : Follows r.z (z_of old) (z_of new.ccr) (eqb new.value 0)
  pub v : Follows r.v (v_of old) (v_of new.ccr) (v_of new.ccr)
  pub c : Follows r.c (c_of old) (c_of new.ccr) (c_of new.ccr)

-- what an instruction works on: destination a, source b, count or bit number n, kind k, size z  [ours]
pub record Operands : Type 0 where
  pub a : ℕ
  pub b : ℕ
  pub n : ℕ
  pub k : ℕ
  pub z : ℕ

-- an instruction: its row, the case that the row is for, the result's size, and the result that is judged with the flags by the definitions  [ours]
pub record Entry : Type 0 where
  pub marks : Row
  pub holds : Operands → Bool
  pub size : Operands → ℕ
  pub gives : Operands → ℕ → Flagged

-- an entry whose row is for every case  [ours]
abbrev pub always : Row → (Operands → ℕ) → (Operands → ℕ → Flagged) → Entry
always r s f = record { marks = r; holds = λ o. true; size = s; gives = f }

-- an entry whose row is for one case  [ours]
abbrev pub in_case : Row → (Operands → Bool) → (Operands → ℕ) → (Operands → ℕ → Flagged) → Entry
in_case r h s f = record { marks = r; holds = h; size = s; gives = f }

-- an entry is kept to: where its case holds, its flags obey its row  [ours]
abbrev pub KeptTo : Entry → Type 0
KeptTo e = (o : Operands) (old : ℕ) → e.holds o ≡ true → Obeys e.marks (e.size o) old (e.gives o old)
