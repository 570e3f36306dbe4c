-- StepLaws.antt - reading a record of form 2: one law for each turn of the code, and one for the whole record.
-- Speaks of: read_olds and read_runs of specs/Runs.antt, shaped_two of specs/Two.antt.
-- Assumes nothing.  Source: [K8].
use Prim.Native.Nat.{ℕ, zero, suc, ◌+◌, ◌-◌, ◌*◌, ◌^◌, ◌≤◌, ◌<◌}
use mathlib.Core.Path.{◌≡◌, ap, ◌∙◌}
use mathlib.Core.Bool.{true}
use mathlib.Core.List.{List, [], ◌∷◌}
use native.Mathlib.Nat.{not-suc-le-zero}
use native.Mathlib.Numerals.{sub-one}
use native.Mathlib.Omega.{arith}
use lib.ListN.{length, set}
use borrow.Author.Tests.{le-leb}
use Rattle.numbers.specs.Number.{got, read_number}
use Rattle.codes.specs.Codes.{Addresses}
use Rattle.record.specs.Limits.{slot_limit, byte_limit, valid_value}
use Rattle.record.specs.Change.{Change, between}
use Rattle.record.proofs.ChangeLaws.{unpacked}
use Rattle.undo.specs.Undo.{parsed, broken, read_changes, found, all_valid}
use Rattle.undo.proofs.ReadLaws.{filled}
use Rattle.runs.specs.Runs.{read_olds, read_runs}
use Rattle.runs.specs.Two.{read_two, shaped_two}
use Rattle.runs.proofs.ReadRunLaws.{old_step}

-- ---- one turn of reading old bytes
pub old_read : (k a : ℕ) (s : List ℕ) (acc : List Change) → 0 < k → (o : ℕ) (s₁ : List ℕ) → read_number s ≡ got o s₁ → o < 256
    → read_olds k a s acc ≡ read_olds (k - 1) a s₁ (record { place = a + (k - 1); old = o } ∷ acc)
old_read zero a s acc h o s₁ e l = absurd (not-suc-le-zero h)
old_read (suc k) a s acc h o s₁ e l = rw (sub-one (suc k)) (old_step k a s acc o s₁ e l)

-- the entry that a turn fills stands before those filled
pub filled_at : (out : List ℕ) (at k n p o : ℕ) → 0 < k → at + k ≤ n → n ≤ length out → o < 2 ^ 32
    → between (at + (k - 1)) n (set out (at + (k - 1)) (p * 2 ^ 32 + o)) ≡ record { place = p; old = o } ∷ between (at + k) n out
filled_at out at k n p o h l m b =
    let ix : at + k - 1 ≡ at + (k - 1) = omega arith in
    let f = filled out (at + k) n (p * 2 ^ 32 + o) (omega arith) l m in
    (rw ix at f) ∙ ap (λ (x : Change). x ∷ between (at + k) n out) (unpacked p o b)

-- ---- one turn of reading runs
pub runs_none : (k lim room : ℕ) (s : List ℕ) (acc : List Change) → 0 < k → ((n : ℕ) → read_runs (suc n) lim room s acc ≡ broken)
    → read_runs k lim room s acc ≡ broken
runs_none zero lim room s acc h f = absurd (not-suc-le-zero h)
runs_none (suc k) lim room s acc h f = f k

pub runs_next : (k lim room : ℕ) (s : List ℕ) (acc : List Change) (a at : ℕ) (s₁ : List ℕ) (acc₁ : List Change) → 0 < k
    → ((n : ℕ) → read_runs (suc n) lim room s acc ≡ read_runs n a at s₁ acc₁) → read_runs k lim room s acc ≡ read_runs (k - 1) a at s₁ acc₁
runs_next zero lim room s acc a at s₁ acc₁ h f = absurd (not-suc-le-zero h)
runs_next (suc k) lim room s acc a at s₁ acc₁ h f = rw (sub-one (suc k)) (f k)

-- ---- a record of form 2
pub two_shaped : (s : List ℕ) (nr : ℕ) (s₁ : List ℕ) → read_number s ≡ got nr s₁ → nr ≤ byte_limit
    → (ns : ℕ) (s₂ : List ℕ) → read_number s₁ ≡ got ns s₂ → ns ≤ slot_limit
    → (bs : List Change) (s₃ : List ℕ) → read_runs nr (suc Addresses) byte_limit s₂ [] ≡ parsed bs s₃
    → (ss : List Change) (s₄ : List ℕ) → read_changes ns slot_limit s₃ [] ≡ parsed ss s₄ → all_valid valid_value ss ≡ true
    → shaped_two s ≡ found ss bs s₄
unfolding shaped_two read_two
two_shaped s nr s₁ e₁ few ns s₂ e₂ few₂ bs s₃ e₃ ss s₄ e₄ v =
    rw (e₁, le-leb nr byte_limit few, e₂, le-leb ns slot_limit few₂, e₃, e₄, v)
