-- RecordLaws.antt - one record in the code: the changes that are left to write; a record of either form as four parts.
-- Speaks of: record_in of specs/Forms.antt, specs/Answers.antt.  Assumes nothing.  Source: [K8].
use Prim.Native.Nat.{ℕ, ◌+◌, ◌/◌, ◌%◌, ◌^◌, ◌<◌}
use mathlib.Core.Path.{◌≡◌, ap, ◌∙◌}
use mathlib.Core.List.{List, ◌++◌, append_assoc, map}
use lib.ListN.{length, get_or, drop}
use Rattle.numbers.specs.Number.{number_bytes}
use Rattle.record.specs.Change.{Change, unpack, changes_bytes, record_of}
use Rattle.runs.specs.Two.{record_two}
use Rattle.runs.proofs.PutLaws.{log_rest}
use Rattle.forms.specs.declared.Form.{Form}
use Rattle.forms.specs.declared.Form.TheVariants.{One, Two}
use Rattle.forms.specs.Forms.{record_in}
use Rattle.forms.specs.Answers.{part_bytes, part_count}

-- ---- the changes that are left
pub changes_rest : (log : List ℕ) (k : ℕ) → k < length log
    → changes_bytes (map unpack (drop k log)) ≡ number_bytes (get_or log k 0 / 2 ^ 32)
    ++ (number_bytes (get_or log k 0 % 2 ^ 32) ++ changes_bytes (map unpack (drop (k + 1) log)))
changes_rest log k h =
    ap changes_bytes (log_rest log k h)
    ∙ append_assoc (number_bytes (get_or log k 0 / 2 ^ 32)) (number_bytes (get_or log k 0 % 2 ^ 32)) (changes_bytes (map unpack (drop (k + 1) log)))

-- ---- a record of either form: the slots, the memory's part, the two counts
pub parts_of_record : (form : Form) (ss bs : List Change)
    → record_in form (record { slots = ss; bytes = bs }) ≡ changes_bytes ss
    ++ (part_bytes form bs ++ (number_bytes (length ss) ++ number_bytes (part_count form bs)))
unfolding record_of record_two
parts_of_record One ss bs = simp append_assoc
parts_of_record Two ss bs = simp append_assoc
