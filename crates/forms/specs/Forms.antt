-- Forms.antt - a record and a whole journal in form 1, which steps write, and in form 2, for posting; the conversion from one into the other.
-- Met by: src/lib.rt.  Laws: proofs/FormLaws.antt, proofs/JournalLaws.antt (the way there and back).  Not here: form 2's record (Two of runs).
-- Uses: runs, oldest, undo, record, numbers, bits, codes.  Source: [K8].
use Rattle.std.specs.Prelude.{ℕ, List, [], length, leb}
use Rattle.codes.specs.Codes.{Addresses}
use Rattle.bits.specs.Bits.{pick}
use Rattle.numbers.specs.Number.{back, written}
use Rattle.undo.specs.Undo.{Record, shaped_record}
use Rattle.oldest.specs.Room.{Row, row_bytes, rows_by, Way, rows, torn, read_rows}
use Rattle.runs.specs.Two.{record_two, shaped_two}
use Rattle.forms.specs.declared.Form.{Form}
use Rattle.forms.specs.declared.Form.TheVariants.{One, Two}
use Rattle.forms.specs.declared.FormAnswer.{FormAnswer}

-- The form that a journal is converted into. [K8]
abbrev pub other : Form → Form
other One = Two
other Two = One

-- ---- a record

-- Its bytes. [K8]
abbrev pub record_in : Form → Row → List ℕ
record_in One r = row_bytes r
record_in Two r = record_two r.slots r.bytes

-- The well-shaped record that ends what is read; in form 1 it is well formed but for what is now held, with addresses below 16,777,216. [K8]
abbrev pub read_in : Form → List ℕ → Record
read_in One s = shaped_record Addresses s
read_in Two s = shaped_two s

-- ---- a whole journal

-- The bytes of its records, the oldest first. [K8]
abbrev pub journal_in : Form → List Row → List ℕ
journal_in form rs = rows_by (record_in form) rs

-- Its records, read from its end back to place 0; or one of them is not well shaped. [K8]
unfoldable pub rows_in : Form → List ℕ → Way
rows_in form j = read_rows (read_in form) (length j) (back j (length j)) []

-- ---- the conversion

-- A record of the journal is not well shaped. [K8]
abbrev pub not_shaped : ℕ
not_shaped = 8

-- The target is too short. [K8]
abbrev pub too_short : ℕ
too_short = 11

-- The target afterwards, and the answer. [K8]
pub record FormCall : Type 0 where
  pub target : List ℕ
  pub a : FormAnswer

-- A refusal gives the length 0 and leaves the target. [K8]
abbrev pub refused : ℕ → List ℕ → FormCall
refused n t = record { target = t; a = record { number = n; length = 0 } }

-- These bytes at the start of the target, whose bytes past them stay, if it has room for them. [K8]
abbrev pub put_whole : List ℕ → List ℕ → FormCall
put_whole b t = pick (leb (length b) (length t)) (record { target = written t 0 b; a = record { number = 0; length = length b } })
    (refused too_short t)

-- The records in the form that is asked for: 8 is told before 11. [K8]
abbrev pub convert_rows : Form → List ℕ → Way → FormCall
convert_rows to t torn = refused not_shaped t
convert_rows to t (rows rs) = put_whole (journal_in to rs) t

-- A whole journal of one form converted into the other. [K8]
unfoldable pub convert : Form → List ℕ → List ℕ → FormCall
convert from j t = convert_rows (other from) t (rows_in from j)
