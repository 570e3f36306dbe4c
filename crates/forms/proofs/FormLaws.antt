-- FormLaws.antt - a record in either form: what is put reads back, and what reads is what was put; form 2's are what form 1's become.
-- * form_reads, form_puts, longest_in: in either form.
-- * two_when_from_one, from_one_when_two: a record of form 2 is well shaped exactly if a well-shaped record of form 1 becomes it.
-- Speaks of: record_in and read_in of specs/Forms.antt.  Assumes nothing.  Source: [K8].
use Prim.Native.Nat.{ℕ, ◌≤◌}
use mathlib.Core.Path.{◌≡◌, refl, sym, ap, ◌∙◌}
use mathlib.Core.List.{List, [], append-nil, reverse, reverse-reverse}
use native.Mathlib.Omega.{arith}
use lib.ListN.{length}
use lib.Seq.{take-length}
use Rattle.codes.specs.Codes.{Addresses}
use Rattle.numbers.specs.Number.{back}
use Rattle.numbers.proofs.NumberLaws.{Bytes}
use Rattle.record.specs.Limits.{longest_record_two}
use Rattle.undo.specs.Undo.{found}
use Rattle.oldest.specs.Room.{Row}
use Rattle.oldest.proofs.RowLaws.{Good, Puts, Reads, record_puts, record_reads, back_as_reverse}
use Rattle.oldest.proofs.OctetLaws.{bytes_of_back, bytes_of_good}
use Rattle.runs.proofs.TwoLaws.{two_puts, two_reads}
use Rattle.runs.proofs.LongestLaws.{longest_one, longest_two}
use Rattle.forms.specs.declared.Form.{Form}
use Rattle.forms.specs.declared.Form.TheVariants.{One, Two}
use Rattle.forms.specs.Forms.{other, record_in, read_in}

pub form_reads : (form : Form) → Reads (read_in form) (record_in form) Addresses
form_reads One = record_reads Addresses (omega arith)
form_reads Two = two_reads

pub form_puts : (form : Form) → Puts (read_in form) (record_in form) Addresses
form_puts One = record_puts Addresses
form_puts Two = two_puts

pub longest_in : (form : Form) (r : Row) → Good Addresses r → length (record_in form r) ≤ longest_record_two
longest_in One r g = omega (arith, longest_one r g)
longest_in Two r g = longest_two r g

pub other_of_other : (form : Form) → other (other form) ≡ form
other_of_other One = refl
other_of_other Two = refl

-- ---- one record, by itself
pub back_whole : (b : List ℕ) → back b (length b) ≡ reverse b
back_whole b = back_as_reverse b (length b) ∙ ap reverse (take-length b)

-- these bytes, all of them, are a well-shaped record that holds r
abbrev pub Shaped : Form → List ℕ → Row → Type 0
Shaped form b r = read_in form (back b (length b)) ≡ found r.slots r.bytes []

pub shaped_when_put : (form : Form) (r : Row) → Good Addresses r → Shaped form (record_in form r) r
shaped_when_put form r g =
    ap (read_in form) (back_whole (record_in form r) ∙ sym (append-nil (reverse (record_in form r)))) ∙ (form_reads form r [] g).0

pub put_when_shaped : (form : Form) (b : List ℕ) (r : Row) → Shaped form b r → Bytes b → (b ≡ record_in form r) × Good Addresses r
put_when_shaped form b r e h =
    let w = form_puts form (back b (length b)) r.slots r.bytes [] e (bytes_of_back b (length b) h (omega arith)) in
    let text : reverse b ≡ reverse (record_in form r) = sym (back_whole b) ∙ w.0 ∙ append-nil (reverse (record_in form r)) in
    (sym (reverse-reverse b) ∙ ap reverse text ∙ reverse-reverse (record_in form r), w.1)

-- the well-shaped record b of form 1 becomes c: the record of form 2 of what it holds
pub record Becomes (b c : List ℕ) : Type 0 where
  pub row : Row
  pub bytes : Bytes b
  pub shaped : Shaped One b row
  pub is : c ≡ record_in Two row

-- a record of form 2 is well shaped exactly if a well-shaped record of form 1 becomes it
pub two_when_from_one : (b c : List ℕ) → Becomes b c → (r : Row) × Shaped Two c r
two_when_from_one b c w =
    let g = (put_when_shaped One b w.row w.shaped w.bytes).1 in
    (w.row, rw w.is (shaped_when_put Two w.row g))

pub from_one_when_two : (c : List ℕ) (r : Row) → Shaped Two c r → Bytes c → (b : List ℕ) × Becomes b c
from_one_when_two c r e h =
    let w = put_when_shaped Two c r e h in
    (record_in One r, record { row = r; bytes = bytes_of_good Addresses r (omega arith) w.1; shaped = shaped_when_put One r w.1; is = w.0 })
