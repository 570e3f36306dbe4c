-- Room.antt - the records below the mark, read from it back to place 0; how many of the oldest go; the journal and the answer then.
-- Met by: src/lib.rt.  Laws: proofs/WayLaws, RowLaws, RoomLaws, SumLaws.  Not here: the order of a call's refusals.
-- Uses: undo, record, numbers, bits.  Source: [K5], [01 The journal].
use Rattle.std.specs.Prelude.{◌≡◌, ℕ, zero, suc, ◌+◌, ◌-◌, ◌^◌, ◌≤◌, Option, Some, None, List, [], ◌∷◌, ◌++◌, length, drop, nat_le, nat_lt}
use Rattle.std.proofs.Math.Seq.{slice}
use Rattle.bits.specs.Bits.{pick}
use Rattle.numbers.specs.Number.{back, written}
use Rattle.record.specs.Limits.{longest_record}
use Rattle.record.specs.Change.{Change, record_of}
use Rattle.undo.specs.Undo.{Record, found, none, shaped_record}
use Rattle.oldest.specs.declared.Cut.{Cut}
use Rattle.oldest.specs.declared.Room.{Room}

-- ---- the records of a journal

-- A record: its changes of slots and of memory. [01 The journal]
pub record Row : Type 0 where
  pub slots : List Change
  pub bytes : List Change

-- Its bytes. [01 The journal]
abbrev pub row_bytes : Row → List ℕ
row_bytes r = record_of r.slots r.bytes

-- Those of several records, one after the other, each as put writes it. [01 The journal]
abbrev pub rows_by : (Row → List ℕ) → List Row → List ℕ
rows_by put [] = []
rows_by put (r ∷ rs) = put r ++ rows_by put rs

-- Those of form 1. [01 The journal]
abbrev pub rows_bytes : List Row → List ℕ
rows_bytes rs = rows_by row_bytes rs

-- All records on the way back, the oldest first; or one of them is not well shaped. [K5]
pub data Way : Type 0 where
  rows : List Row → Way
  torn : Way

-- A record put before those read so far, and then the rest. [K5]
abbrev pub more_rows : (List ℕ → List Row → Way) → List Row → Record → Way
more_rows rest acc none = torn
more_rows rest acc (found ss bs s) = rest s (record { slots = ss; bytes = bs } ∷ acc)

-- a where nothing is left to read, else b. [ours]
abbrev pub at_end : List ℕ → Way → Way → Way
at_end [] a b = a
at_end (x ∷ s) a b = b

-- The records that make up what is read, at most f of them, each as read finds it, put before acc. [K5]
abbrev pub read_rows : (List ℕ → Record) → ℕ → List ℕ → List Row → Way
read_rows read zero s acc = at_end s (rows acc) torn
read_rows read (suc f) s acc = at_end s (rows acc) (more_rows (read_rows read f) acc (read s))

-- The records below the mark, from it back to place 0, for a memory of len bytes: no record is empty, so they are at most as many as
-- bytes. [K5]
unfoldable pub rows_of : ℕ → List ℕ → ℕ → Way
rows_of len j mark = read_rows (shaped_record len) mark (back j mark) []

-- ---- what is dropped

-- Of records, the first of which starts at place at, those that start below need. With at 0 and need the bytes that are missing these are
-- the fewest oldest ones that make room: a record goes exactly if those before it are too few bytes. [K5]
abbrev pub dropped : ℕ → ℕ → List Row → ℕ
dropped need at [] = 0
dropped need at (r ∷ rs) = pick (nat_lt at need) (suc (dropped need (at + length (row_bytes r)) rs)) 0

-- The journal, and what the answer says. [K5]
pub record RoomCall : Type 0 where
  pub j : List ℕ
  pub a : Room

-- Journal and mark as they were, with the number n. [K5]
abbrev pub as_it_was : ℕ → List ℕ → ℕ → RoomCall
as_it_was n j mark = record { j = j; a = record { number = n; mark = mark; moved = 0; dropped = 0 } }

-- The oldest k records gone, and the others moved down to place 0; every other byte stays. [K5]
abbrev pub without : ℕ → List Row → List ℕ → RoomCall
without k rs j =
    let b = rows_bytes (drop k rs) in
    record { j = written j 0 b; a = record { number = 0; mark = length b; moved = length b; dropped = k } }

-- The bytes that are missing. [K5]
abbrev pub missing : List ℕ → ℕ → ℕ
missing j mark = longest_record - (length j - mark)

-- 8 where a record on the way back is not well shaped. [K5]
abbrev pub with_rows : List ℕ → ℕ → Way → RoomCall
with_rows j mark torn = as_it_was 8 j mark
with_rows j mark (rows rs) = without (dropped (missing j mark) 0 rs) rs j

-- Room for the longest record: nothing to do where it is there; 5 where the journal is shorter than that altogether. [K5]
unfoldable pub make_room : ℕ → List ℕ → ℕ → RoomCall
make_room len j mark =
    pick (nat_le longest_record (length j - mark)) (as_it_was 0 j mark)
    (pick (nat_lt (length j) longest_record) (as_it_was 5 j mark)
    (with_rows j mark (rows_of len j mark)))

-- The largest number of 64 bits. [K5]
abbrev pub largest_sum : ℕ
largest_sum = 2 ^ 64 - 1

-- The sum of bytes moved, cut at that number. [K5]
abbrev pub capped : ℕ → ℕ
capped n = pick (nat_lt largest_sum n) largest_sum n

-- ---- what the code's answers say

-- The records below the mark were read; so many go as c says, and the others stand from its place up to the mark. Or one is not well
-- shaped. [ours]
abbrev pub CutIs : ℕ → List ℕ → ℕ → ℕ → Option Cut → Type 0
CutIs len j mark need (Some c) =
    (rs : List Row)
    × (rows_of len j mark ≡ rows rs)
    × (c.dropped ≡ dropped need 0 rs)
    × (c.from ≤ mark)
    × (slice c.from mark j ≡ rows_bytes (drop c.dropped rs))
CutIs len j mark need None = rows_of len j mark ≡ torn

-- The journal afterwards and the answer. [K5]
pub record RoomIs (len : ℕ) (j : List ℕ) (mark : ℕ) (j' : List ℕ) (a : Room) : Type 0 where
  pub journal : j' ≡ (make_room len j mark).j
  pub answer : a ≡ (make_room len j mark).a
