-- ExampleLaws.antt - the examples hold, by computing: both forms, each way; what is refused; a longest record of form 2.
-- * both_forms_hold, judged_hold, longest_reached.
-- Speaks of: specs/Examples.antt.  Assumes nothing.  Source: [K8].
use Prim.Native.Nat.{ℕ, zero, suc}
use mathlib.Core.Path.{◌≡◌, refl}
use mathlib.Core.List.{List, [], ◌∷◌}
use lib.ListN.{length}
use Rattle.numbers.specs.Number.{number_bytes, read_number, back}
use Rattle.record.specs.Limits.{longest_record_two, valid_value}
use Rattle.record.specs.Change.{record_of}
use Rattle.undo.specs.Undo.{read_record, shaped_record}
use Rattle.runs.specs.Two.{record_two, read_two, shaped_two}
use Rattle.forms.specs.declared.Form.TheVariants.{One, Two}
use Rattle.forms.specs.Forms.{record_in, rows_in, FormCall, convert}
use Rattle.forms.specs.Examples.{BothForms, both_forms, Judged, judged, longest_row}
use Rattle.forms.proofs.FormLaws.{Shaped}

-- a target of n zeros
abbrev blank : ℕ → List ℕ
blank zero = []
blank (suc n) = 0 ∷ blank n

-- a conversion that is done and fills its target with these bytes
abbrev filled : List ℕ → FormCall
filled bytes = record { target = bytes; a = record { number = 0; length = length bytes } }

abbrev pub Hold : List BothForms → Type 0
Hold [] = Unit {0}
Hold (r ∷ rs) = (convert One r.one (blank (length r.two)) ≡ filled r.two)
    × (convert Two r.two (blank (length r.one)) ≡ filled r.one) × Hold rs

pub both_forms_hold : Hold both_forms
unfolding number_bytes read_number back valid_value record_of read_record shaped_record record_two read_two shaped_two rows_in convert
both_forms_hold = (refl, refl, (refl, refl, (refl, refl, (refl, refl, (refl, refl, (refl, refl, tt))))))

abbrev pub AreJudged : List Judged → Type 0
AreJudged [] = Unit {0}
AreJudged (r ∷ rs) = ((convert r.form r.journal (blank r.room)).a.number ≡ r.number) × AreJudged rs

pub judged_hold : AreJudged judged
unfolding number_bytes read_number back valid_value record_of read_record shaped_record record_two read_two shaped_two rows_in convert
judged_hold = (refl, (refl, (refl, (refl, (refl, (refl, (refl, (refl, (refl, (refl, (refl, (refl, tt))))))))))))

pub longest_reached : (length (record_in Two longest_row) ≡ longest_record_two) × Shaped Two (record_in Two longest_row) longest_row
unfolding number_bytes read_number back valid_value record_two read_two shaped_two
longest_reached = (refl, refl)
