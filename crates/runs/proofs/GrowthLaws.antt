-- GrowthLaws.antt - how much a record grows from one form into the other: to form 2 by at most half, to form 1 to at most five times.
-- * two_at_most, one_at_most.
-- Speaks of: record_two of specs/Two.antt, record_of of record, Good of oldest.  Assumes nothing.  Source: [K8].
use Prim.Native.Nat.{ℕ, suc, ◌+◌, ◌*◌, ◌≤◌, ◌<◌}
use mathlib.Core.Path.{◌≡◌, ap}
use mathlib.Core.List.{List, [], ◌∷◌, ◌++◌}
use native.Mathlib.Omega.{arith}
use lib.ListN.{length, length-append}
use Rattle.codes.specs.Codes.{Addresses}
use Rattle.numbers.specs.Number.{number_bytes}
use Rattle.numbers.proofs.NumberLaws.{number_bytes_size, number_bytes_some}
use Rattle.record.specs.Limits.{byte_limit}
use Rattle.record.specs.Change.{Change, change_bytes, changes_bytes, record_of}
use Rattle.record.proofs.ChangeLaws.{bytes_append}
use Rattle.oldest.specs.Room.{Row, row_bytes}
use Rattle.oldest.proofs.RowLaws.{Good}
use Rattle.runs.specs.Runs.{Stretch, runs, numbers_bytes, run_bytes, runs_bytes}
use Rattle.runs.specs.Two.{record_two}
use Rattle.runs.proofs.RunLaws.{spread, flat, total, Spaced, flat_of_runs, spaced_of_runs, runs_few}
use Rattle.runs.proofs.TwoLaws.{two_bytes, total_of_runs}

-- ---- old bytes with an address each, and without
alone_shorter : (a : ℕ) (os : List ℕ) → length (numbers_bytes os) ≤ length (changes_bytes (spread a os))
alone_shorter a [] = omega arith
alone_shorter a (o ∷ os) =
    omega (
      arith,
      alone_shorter (suc a) os,
      length-append (number_bytes o) (numbers_bytes os),
      length-append (number_bytes a ++ number_bytes o) (changes_bytes (spread (suc a) os)),
      length-append (number_bytes a) (number_bytes o),
    )

-- the first address is there once
first_shorter : (a : ℕ) (os : List ℕ) → 0 < length os → length (numbers_bytes os) + length (number_bytes a) ≤ length (changes_bytes (spread a os))
first_shorter a [] h = absurd (omega arith)
first_shorter a (o ∷ os) h =
    omega (
      arith,
      alone_shorter (suc a) os,
      length-append (number_bytes o) (numbers_bytes os),
      length-append (number_bytes a ++ number_bytes o) (changes_bytes (spread (suc a) os)),
      length-append (number_bytes a) (number_bytes o),
    )

-- an address has at most four bytes, beside an old byte's one or two
spread_at_most : (a : ℕ) (os : List ℕ) → a + length os ≤ Addresses → length (changes_bytes (spread a os)) ≤ 5 * length (numbers_bytes os)
spread_at_most a [] h = omega arith
spread_at_most a (o ∷ os) h =
    omega (
      arith,
      spread_at_most (suc a) os (omega arith),
      number_bytes_size 3 a (omega arith),
      number_bytes_some o,
      length-append (number_bytes o) (numbers_bytes os),
      length-append (number_bytes a ++ number_bytes o) (changes_bytes (spread (suc a) os)),
      length-append (number_bytes a) (number_bytes o),
    )

-- ---- all runs
run_length : (r : Stretch) → length (run_bytes r) ≡ length (numbers_bytes r.olds) + length (number_bytes r.first) + length
    (number_bytes (length r.olds))
run_length r =
    omega (
      arith,
      length-append (numbers_bytes r.olds ++ number_bytes r.first) (number_bytes (length r.olds)),
      length-append (numbers_bytes r.olds) (number_bytes r.first),
    )

flat_length : (r : Stretch) (rs : List Stretch) → length (changes_bytes (flat (r ∷ rs)))
    ≡ length (changes_bytes (spread r.first r.olds)) + length (changes_bytes (flat rs))
flat_length r rs =
    omega (
      arith,
      ap length (bytes_append (spread r.first r.olds) (flat rs)),
      length-append (changes_bytes (spread r.first r.olds)) (changes_bytes (flat rs)),
    )

runs_at_most : (lo : ℕ) (rs : List Stretch) → Spaced lo (suc Addresses) rs → total rs < 128
    → length (runs_bytes rs) ≤ length (changes_bytes (flat rs)) + length rs
runs_at_most lo [] s h = omega arith
runs_at_most lo (r ∷ rs) s h =
    omega (
      arith,
      runs_at_most (suc (r.first + length r.olds)) rs s.3 (omega arith),
      first_shorter r.first r.olds s.1,
      number_bytes_size 0 (length r.olds) (omega arith),
      run_length r,
      flat_length r rs,
      length-append (run_bytes r) (runs_bytes rs),
    )

flat_at_most : (lo : ℕ) (rs : List Stretch) → Spaced lo (suc Addresses) rs → length (changes_bytes (flat rs)) ≤ 5 * length (runs_bytes rs)
flat_at_most lo [] s = omega arith
flat_at_most lo (r ∷ rs) s =
    omega (
      arith,
      flat_at_most (suc (r.first + length r.olds)) rs s.3,
      spread_at_most r.first r.olds (omega (arith, s.2)),
      run_length r,
      flat_length r rs,
      length-append (run_bytes r) (runs_bytes rs),
    )

changes_at_least : (cs : List Change) → 2 * length cs ≤ length (changes_bytes cs)
changes_at_least [] = omega arith
changes_at_least (c ∷ cs) =
    omega (
      arith,
      changes_at_least cs,
      number_bytes_some c.place,
      number_bytes_some c.old,
      length-append (change_bytes c) (changes_bytes cs),
      length-append (number_bytes c.place) (number_bytes c.old),
    )

-- ---- a record
module _ (r : Row) (g : Good Addresses r) where
  abbrev rs : List Stretch
  rs = runs r.bytes

  spaced : Spaced 0 (suc Addresses) rs
  spaced = spaced_of_runs 0 Addresses r.bytes g.bytes_ascend

  few : total rs ≤ byte_limit
  few = omega (arith, g.few_bytes, total_of_runs r.bytes)

  same : length (changes_bytes (flat rs)) ≡ length (changes_bytes r.bytes)
  same = ap (λ (cs : List Change). length (changes_bytes cs)) (flat_of_runs r.bytes)

  -- three bytes for two
  pub two_at_most : 2 * length (two_bytes r) ≤ 3 * length (row_bytes r)
  unfolding record_two record_of
  two_at_most =
      simp length-append
      (omega (
        arith,
        runs_at_most 0 rs spaced (omega (arith, few)),
        runs_few 0 (suc Addresses) rs spaced,
        total_of_runs r.bytes,
        same,
        changes_at_least r.bytes,
        number_bytes_size 0 (length rs) (omega (arith, few, runs_few 0 (suc Addresses) rs spaced)),
        number_bytes_some (length r.bytes),
        number_bytes_some (length r.slots),
      ))

  -- five bytes for one
  pub one_at_most : length (row_bytes r) ≤ 5 * length (two_bytes r)
  unfolding record_two record_of
  one_at_most =
      simp length-append
      (omega (
        arith,
        flat_at_most 0 rs spaced,
        same,
        number_bytes_size 0 (length r.bytes) (omega (arith, g.few_bytes)),
        number_bytes_some (length rs),
      ))
