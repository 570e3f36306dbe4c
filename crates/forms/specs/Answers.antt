-- Answers.antt - what the answers of the code say, in terms of Forms; the two parts by which it writes a record of either form.
-- Met by: src/lib.rt.
-- Uses: runs, oldest, undo, record, numbers.  Source: [ours].
use Rattle.std.specs.Prelude.{ℕ, ◌+◌, ◌≤◌, ◌<◌, ◌≡◌, Option, Some, None, Result, Ok, Err, List, length, take}
use Rattle.numbers.specs.Number.{back}
use Rattle.record.specs.Change.{Change, changes_bytes}
use Rattle.undo.specs.Undo.{found, none}
use Rattle.oldest.specs.Room.{Row, rows, torn}
use Rattle.runs.specs.Runs.{runs, runs_bytes}
use Rattle.forms.specs.declared.Form.{Form}
use Rattle.forms.specs.declared.Form.TheVariants.{One, Two}
use Rattle.forms.specs.declared.Converted.{Converted}
use Rattle.forms.specs.declared.Unfit.{Unfit}
use Rattle.forms.specs.declared.Unfit.TheVariants.{NotShaped, TooShort}
use Rattle.forms.specs.Forms.{other, record_in, read_in, journal_in, rows_in, not_shaped, too_short}

-- The part of a record that has the memory's changes. [K8]
abbrev pub part_bytes : Form → List Change → List ℕ
part_bytes One bs = changes_bytes bs
part_bytes Two bs = runs_bytes (runs bs)

-- The count that the record ends with. [K8]
abbrev pub part_count : Form → List Change → ℕ
part_count One bs = length bs
part_count Two bs = length (runs bs)

-- The record that ends at the mark stands in the first bytes of out, in the other form; or there is none. [ours]
abbrev pub ConvertedIs : Form → List ℕ → ℕ → List ℕ → Option Converted → Type 0
ConvertedIs form j mark out (Some x) =
    (r : Row)
    × (read_in form (back j mark) ≡ found r.slots r.bytes (back j x.start))
    × (x.start < mark)
    × (x.length ≡ length (record_in (other form) r))
    × (take x.length out ≡ record_in (other form) r)
    × (x.length ≤ length out)
ConvertedIs form j mark out None = read_in form (back j mark) ≡ none

-- Of space bytes these are taken: what is left, or that there are too few. [ours]
abbrev pub SpaceIs : ℕ → ℕ → Option ℕ → Type 0
SpaceIs space taken (Some left) = taken + left ≡ space
SpaceIs space taken None = space < taken

-- The space after n bytes more are taken. [ours]
abbrev pub Less : Option ℕ → ℕ → Option ℕ → Type 0
Less s n x = (space taken : ℕ) → SpaceIs space taken s → SpaceIs space (n + taken) x

-- The length of the journal in the other form; that a record is not well shaped; or that the space is too small. [ours]
abbrev pub MeasuredIs : Form → List ℕ → ℕ → Result ℕ Unfit → Type 0
MeasuredIs form j space (Ok n) = (rs : List Row) × (rows_in form j ≡ rows rs) × (n ≡ length (journal_in (other form) rs)) × (n ≤ space)
MeasuredIs form j space (Err NotShaped) = rows_in form j ≡ torn
MeasuredIs form j space (Err TooShort) = (rs : List Row) × (rows_in form j ≡ rows rs) × (space < length (journal_in (other form) rs))

-- The number of a refusal. [K8]
abbrev pub refusal : Unfit → ℕ
refusal NotShaped = not_shaped
refusal TooShort = too_short
