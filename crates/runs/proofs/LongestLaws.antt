-- LongestLaws.antt - how long a well-shaped record is at most, in form 1 and in form 2.
-- * longest_one, longest_two: every one.
-- Speaks of: record-of of record, record_two of specs/Two.antt, Good of oldest.  Source: [K8], [01 The journal].
use Prim.Native.Nat.{ℕ, suc, ◌+◌, ◌*◌, ◌≤◌, ◌<◌}
use mathlib.Core.Path.{◌≡◌}
use mathlib.Core.Bool.{true}
use mathlib.Core.List.{List, [], ◌∷◌, ◌++◌}
use native.Mathlib.Omega.{arith}
use lib.ListN.{length, length-append}
use Rattle.codes.specs.Codes.{Addresses}
use Rattle.bits.proofs.BitsLaws.{and_left, and_right}
use Rattle.numbers.specs.Number.{number_bytes}
use Rattle.numbers.proofs.NumberLaws.{Bytes, number_bytes_size}
use Rattle.record.specs.Limits.{longest_record, longest_record_two, valid_value}
use Rattle.record.specs.Change.{Change}
use Rattle.record.proofs.DiffLaws.{Small}
use Rattle.record.proofs.SizeLaws.{weight, weighs, Weighed, slots_part, length_of_record}
use Rattle.undo.specs.Undo.{all_valid}
use Rattle.undo.proofs.JudgeLaws.{olds_of_valid}
use Rattle.oldest.specs.Room.{Row, row_bytes}
use Rattle.oldest.proofs.RowLaws.{Good}
use Rattle.runs.specs.Runs.{Stretch, runs, numbers_bytes, run_bytes, runs_bytes}
use Rattle.runs.specs.Two.{record_two}
use Rattle.runs.proofs.RunLaws.{total, Spaced, RunBytes, spaced_of_runs, bytes_of_runs, runs_few}
use Rattle.runs.proofs.TwoLaws.{two_bytes, total_of_runs}

-- ---- the slots, in both forms
weighed_of_valid : (cs : List Change) → all_valid valid_value cs ≡ true → Small cs → Weighed weight cs
weighed_of_valid [] v s = tt
weighed_of_valid (c ∷ cs) v s = (
  weighs c.place c.old (and_left (valid_value c.place c.old) (all_valid valid_value cs) v, s.0),
  weighed_of_valid cs (and_right (valid_value c.place c.old) (all_valid valid_value cs) v) s.1,
)

module _ (r : Row) (g : Good Addresses r) where
  pub longest_one : length (row_bytes r) ≤ longest_record
  longest_one =
      length_of_record r.slots r.bytes g.few_slots g.few_bytes g.slots_ascend
      (weighed_of_valid r.slots g.slots_valid g.slots_small) g.bytes_ascend (olds_of_valid r.bytes g.bytes_valid)

-- ---- the bytes of form 2: a run of one byte is the worst
olds_size : (os : List ℕ) → Bytes os → length (numbers_bytes os) ≤ 2 * length os
olds_size [] b = omega arith
olds_size (o ∷ os) b =
    omega (arith, olds_size os b.1, length-append (number_bytes o) (numbers_bytes os), number_bytes_size 1 o (omega (arith, b.0)))

runs_size : (lo : ℕ) (rs : List Stretch) → Spaced lo (suc Addresses) rs → RunBytes rs → total rs < 128 → length (runs_bytes rs) ≤ 7 * total rs
runs_size lo [] s b h = omega arith
runs_size lo (x ∷ rs) s b h =
    let m = length x.olds in
    let rest = runs_size (suc (x.first + m)) rs s.3 b.1 (omega arith) in
    omega (
      arith,
      rest,
      s.1,
      s.2,
      olds_size x.olds b.0,
      length-append (run_bytes x) (runs_bytes rs),
      length-append (numbers_bytes x.olds ++ number_bytes x.first) (number_bytes m),
      length-append (numbers_bytes x.olds) (number_bytes x.first),
      number_bytes_size 3 x.first (omega (arith, s.2)),
      number_bytes_size 0 m (omega arith),
    )

module _ (r : Row) (g : Good Addresses r) where
  pub longest_two : length (two_bytes r) ≤ longest_record_two
  unfolding record_two
  longest_two =
      let rs = runs r.bytes in
      let sp = spaced_of_runs 0 Addresses r.bytes g.bytes_ascend in
      let all = total_of_runs r.bytes in
      simp length-append
      (omega (
        arith,
        slots_part r.slots g.slots_ascend (weighed_of_valid r.slots g.slots_valid g.slots_small),
        runs_size 0 rs sp (bytes_of_runs r.bytes (olds_of_valid r.bytes g.bytes_valid)) (omega (arith, all, g.few_bytes)),
        all,
        g.few_bytes,
        g.few_slots,
        runs_few 0 (suc Addresses) rs sp,
        number_bytes_size 0 (length r.slots) (omega (arith, g.few_slots)),
        number_bytes_size 0 (length rs) (omega (arith, all, g.few_bytes, runs_few 0 (suc Addresses) rs sp)),
      ))
