-- Two.antt - a record of form 2: its bytes, and the reading of it from the end.
-- Met by: src/read.rt; put_in of forms.  Laws: proofs/TwoLaws.antt, proofs/LongestLaws.antt.
-- Uses: undo, record, numbers, bits, codes.  Source: [K8], [01 The journal].
use Rattle.std.specs.Prelude.{ℕ, suc, List, [], ◌++◌, length, leb}
use Rattle.codes.specs.Codes.{Addresses}
use Rattle.bits.specs.Bits.{pick}
use Rattle.numbers.specs.Number.{Got, got, bad, number_bytes, read_number}
use Rattle.record.specs.Limits.{slot_limit, byte_limit, valid_value}
use Rattle.record.specs.Change.{Change, changes_bytes}
use Rattle.undo.specs.Undo.{Record, found, none, with_bytes, all_valid}
use Rattle.runs.specs.Runs.{runs, runs_bytes, read_runs}

-- The record of form 2 of the changes of slots and of memory: the slots as in form 1, the runs, the two counts. [K8]
unfoldable pub record_two : List Change → List Change → List ℕ
record_two slots bytes =
    changes_bytes slots
    ++ runs_bytes (runs bytes)
    ++ number_bytes (length slots)
    ++ number_bytes (length (runs bytes))

-- The count of slots, and then the changes; the last run ends below 16,777,216. [K8]
abbrev pub two_slot_count : ℕ → Got → Record
two_slot_count nr bad = none
two_slot_count nr (got ns s) =
    pick (leb ns slot_limit) (with_bytes ns (read_runs nr (suc Addresses) byte_limit s [])) none

-- The count of runs, and then the count of slots. [K8]
abbrev pub two_run_count : Got → Record
two_run_count bad = none
two_run_count (got nr s) = pick (leb nr byte_limit) (two_slot_count nr (read_number s)) none

-- The record of form 2 that ends what is read: numbers, counts, order, gaps and old bytes. [K8]
unfoldable pub read_two : List ℕ → Record
read_two s = two_run_count (read_number s)

-- The record, if its slots' values are valid. [01 The journal]
abbrev pub if_slots_valid : Record → Record
if_slots_valid none = none
if_slots_valid (found ss bs s) = pick (all_valid valid_value ss) (found ss bs s) none

-- The well-shaped record of form 2 that ends what is read. [K8]
unfoldable pub shaped_two : List ℕ → Record
shaped_two s = if_slots_valid (read_two s)
