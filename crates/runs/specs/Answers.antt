-- Answers.antt - what the answers of the code say, in terms of Runs and Two.
-- Met by: src/read.rt, src/put.rt.
-- Uses: undo, record, numbers, codes.  Source: [ours].
use Rattle.std.specs.Prelude.{ℕ, suc, ◌+◌, ◌/◌, ◌^◌, ◌≤◌, ◌<◌, ◌≡◌, Option, Some, None, List, [], Bool, map, length, eqb}
use Rattle.codes.specs.Codes.{Addresses}
use Rattle.numbers.specs.Number.{back, written}
use Rattle.record.specs.Limits.{slot_limit, byte_limit}
use Rattle.record.specs.Change.{Change, between, changes}
use Rattle.record.specs.declared.Put.{Put}
use Rattle.undo.specs.Undo.{parsed, broken, Record, found, none}
use Rattle.runs.specs.Runs.{read_olds, read_runs}
use Rattle.runs.specs.declared.OneRun.{OneRun}
use Rattle.runs.specs.declared.AllRuns.{AllRuns}
use Rattle.runs.specs.declared.Logged.{Logged}

-- ---- reading

-- n old bytes were read back from place end into the entries from at on, before those that stood there. [ours]
abbrev pub OldsIs : List ℕ → ℕ → ℕ → ℕ → List ℕ → ℕ → List ℕ → Option ℕ → Type 0
OldsIs j end n a out₀ at out (Some s) =
    (read_olds n a (back j end) (between (at + n) byte_limit out₀) ≡ parsed (between at byte_limit out) (back j s))
    × (s ≤ end)
    × (length out ≡ length out₀)
OldsIs j end n a out₀ at out None =
    (read_olds n a (back j end) (between (at + n) byte_limit out₀) ≡ broken) × (length out ≡ length out₀)

-- One run was read back from place end, before those in the entries from room on. [ours]
abbrev pub OneRunIs : List ℕ → ℕ → ℕ → ℕ → List ℕ → List ℕ → Option OneRun → Type 0
OneRunIs j end lim room out₀ out (Some r) =
    ((k : ℕ) → read_runs (suc k) lim room (back j end) (between room byte_limit out₀)
    ≡ read_runs k r.first r.at (back j r.start) (between r.at byte_limit out))
    × (r.start ≤ end)
    × (r.at ≤ room)
    × (r.first ≤ Addresses)
    × (length out ≡ length out₀)
OneRunIs j end lim room out₀ out None =
    ((k : ℕ) → read_runs (suc k) lim room (back j end) (between room byte_limit out₀) ≡ broken) × (length out ≡ length out₀)

-- n runs were read back from place end into the last entries of out. [ours]
abbrev pub AllRunsIs : List ℕ → ℕ → ℕ → List ℕ → Option AllRuns → Type 0
AllRunsIs j end n out (Some r) =
    (read_runs n (suc Addresses) byte_limit (back j end) [] ≡ parsed (between r.at byte_limit out) (back j r.start))
    × (r.start ≤ end)
    × (r.at ≤ byte_limit)
AllRunsIs j end n out None = read_runs n (suc Addresses) byte_limit (back j end) [] ≡ broken

-- The record w that ends at the mark was read into the first entries of slots and into those of bytes that r tells, and starts where it tells;
-- or there is none. [ours]
abbrev pub LoggedIs : Record → List ℕ → ℕ → List ℕ → List ℕ → Option Logged → Type 0
LoggedIs w j mark slots bytes (Some r) =
    (w ≡ found (changes slots r.slots) (between r.from r.to bytes) (back j r.start))
    × (r.start < mark)
    × (r.slots ≤ slot_limit)
    × (r.from ≤ r.to)
    × (r.to ≤ byte_limit)
LoggedIs w j mark slots bytes None = w ≡ none

-- ---- writing

-- The old values of changes. [ours]
abbrev pub olds : List Change → List ℕ
olds = map (λ c. c.old)

-- Whether an entry y of a log stands at the address after that of an entry x. [K8]
abbrev pub follows : ℕ → ℕ → Bool
follows x y = eqb (y / 2 ^ 32) (x / 2 ^ 32 + 1)

-- These bytes were written at a place, and next is the place after them. [ours]
pub record BytesPut (out₀ : List ℕ) (at : ℕ) (bs : List ℕ) (out : List ℕ) (next : ℕ) : Type 0 where
  pub place : next ≡ at + length bs
  pub bytes : out ≡ written out₀ at bs

-- The same, with the count that they stand for. [ours]
pub record PartPut (out₀ : List ℕ) (at : ℕ) (bs : List ℕ) (n : ℕ) (out : List ℕ) (r : Put) : Type 0 where
  pub bytes : BytesPut out₀ at bs out r.at
  pub count : r.count ≡ n
