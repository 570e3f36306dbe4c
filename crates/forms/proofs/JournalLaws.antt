-- JournalLaws.antt - a whole journal in either form: it reads as what it was made of, and comes back byte for byte through the other form.
-- * rows_of_journal, journal_of_rows: a journal of well-shaped records, and no other, reads as them.
-- * shaped_for_posting: where records could be dropped for want of room, they can be posted.
-- * convert_unique; convert_cases: a conversion is one of three things.   * there_and_back, back_when_done: the way back.
-- * never_short_to_two, never_short_to_one: targets that are always long enough.
-- Speaks of: rows_in and convert of specs/Forms.antt.  Assumes nothing.  Source: [K8].
use Prim.Native.Nat.{ℕ, ◌+◌, ◌*◌, ◌≤◌, ◌<◌}
use mathlib.Core.Path.{◌≡◌, refl, sym, ap, ◌∙◌}
use mathlib.Core.Bool.{Bool, true, false}
use mathlib.Core.List.{List, [], ◌∷◌, append-nil, reverse, reverse-reverse}
use native.Mathlib.Omega.{arith}
use lib.ListN.{length, take, drop, length-append}
use lib.Seq.{take_at}
use lib.Dec.{leb}
use borrow.Author.Tests.{le-leb, lt-leb, leb-true, leb-false}
use Rattle.codes.specs.Codes.{Addresses}
use Rattle.numbers.specs.Number.{back, written}
use Rattle.numbers.proofs.NumberLaws.{Bytes}
use Rattle.record.proofs.ChangeLaws.{ascending_weaken}
use Rattle.oldest.specs.Room.{Row, Way, rows, torn, read_rows, rows_of}
use Rattle.oldest.proofs.RowLaws.{AllGood, older_when_read, all_read, bytes_of_rows}
use Rattle.oldest.proofs.OctetLaws.{bytes_of_back}
use Rattle.runs.proofs.GrowthLaws.{two_at_most, one_at_most}
use Rattle.forms.specs.declared.Form.{Form}
use Rattle.forms.specs.declared.Form.TheVariants.{One, Two}
use Rattle.forms.specs.declared.FormAnswer.{FormAnswer}
use Rattle.forms.specs.Forms.{other, record_in, read_in, journal_in, rows_in, not_shaped}
use Rattle.forms.specs.Forms.{too_short, FormCall, refused, convert}
use Rattle.forms.specs.Promises.{ConvertPromise}
use Rattle.forms.proofs.FormLaws.{form_reads, form_puts, other_of_other, back_whole}

-- ---- a journal and its records
pub rows_of_journal : (form : Form) (rs : List Row) → AllGood Addresses rs → rows_in form (journal_in form rs) ≡ rows rs
unfolding rows_in
rows_of_journal form rs g =
    let j = journal_in form rs in
    ap (λ (s : List ℕ). read_rows (read_in form) (length j) s []) (back_whole j)
    ∙ all_read (read_in form) (record_in form) Addresses (form_reads form) rs g

pub journal_of_rows : (form : Form) (j : List ℕ) (rs : List Row) → rows_in form j ≡ rows rs → Bytes j
    → (j ≡ journal_in form rs) × AllGood Addresses rs
unfolding rows_in
journal_of_rows form j rs e h =
    let w = older_when_read (read_in form) (record_in form) Addresses (form_puts form) (length j)
    (back j (length j)) [] rs e (bytes_of_back j (length j) h (omega arith)) in
    let same : rs ≡ w.0 = w.1 ∙ append-nil w.0 in
    (sym (reverse-reverse j) ∙ ap reverse (sym (back_whole j)) ∙ w.2 ∙ ap (journal_in form) (sym same), rw same w.3)

-- ---- a journal that is well shaped for its memory, as making room asks it, is well shaped for posting
good_wider : (len top : ℕ) (rs : List Row) → len ≤ top → AllGood len rs → AllGood top rs
good_wider len top [] h g = tt
good_wider len top (r ∷ rs) h g = (
  record {
    few_slots = g.0.few_slots;
    few_bytes = g.0.few_bytes;
    slots_ascend = g.0.slots_ascend;
    bytes_ascend = ascending_weaken 0 len top r.bytes h g.0.bytes_ascend;
    slots_small = g.0.slots_small;
    bytes_small = g.0.bytes_small;
    slots_valid = g.0.slots_valid;
    bytes_valid = g.0.bytes_valid;
  },
  good_wider len top rs h g.1,
)

pub shaped_for_posting : (len : ℕ) (j : List ℕ) (mark : ℕ) (rs : List Row) → len ≤ Addresses → mark ≤ length j → Bytes j
    → rows_of len j mark ≡ rows rs → rows_in One (take mark j) ≡ rows rs
shaped_for_posting len j mark rs h inside b e =
    let w = bytes_of_rows len j mark rs e (bytes_of_back j mark b inside) in
    ap (rows_in One) w.0 ∙ rows_of_journal One rs (good_wider len Addresses rs h w.1)

-- ---- what a conversion promises is all that it does
pub convert_unique : (from : Form) (j t t₁ : List ℕ) (a₁ : FormAnswer) (t₂ : List ℕ) (a₂ : FormAnswer)
    → ConvertPromise from j t t₁ a₁ → ConvertPromise from j t t₂ a₂ → (t₁ ≡ t₂) × (a₁ ≡ a₂)
convert_unique from j t t₁ a₁ t₂ a₂ p q = (p.target ∙ sym q.target, p.answer ∙ sym q.answer)

-- ---- the three things that a conversion can be, each with what leads to it, so that no two can be
pub data Outcome (from : Form) (j t : List ℕ) : FormCall → Type 0 where
  not_well_shaped : rows_in from j ≡ torn → Outcome from j t (refused not_shaped t)
  short : (rs : List Row) → rows_in from j ≡ rows rs → length t < length (journal_in (other from) rs) → Outcome from j t (refused too_short t)
  done : (rs : List Row) → rows_in from j ≡ rows rs → length (journal_in (other from) rs) ≤ length t
      → Outcome from j t (record {
        target = written t 0 (journal_in (other from) rs);
        a = record { number = 0; length = length (journal_in (other from) rs) };
      })

pub convert_torn : (from : Form) (j t : List ℕ) → rows_in from j ≡ torn → convert from j t ≡ refused not_shaped t
unfolding convert
convert_torn from j t e = rw e

module _ (from : Form) (j t : List ℕ) (rs : List Row) (e : rows_in from j ≡ rows rs) where
  pub convert_short : length t < length (journal_in (other from) rs) → convert from j t ≡ refused too_short t
  unfolding convert
  convert_short h = rw (e, lt-leb (length (journal_in (other from) rs)) (length t) h)

  pub convert_done : length (journal_in (other from) rs) ≤ length t
      → convert from j t ≡ record {
        target = written t 0 (journal_in (other from) rs);
        a = record { number = 0; length = length (journal_in (other from) rs) };
      }
  unfolding convert
  convert_done h = rw (e, le-leb (length (journal_in (other from) rs)) (length t) h)

pub convert_cases : (from : Form) (j t : List ℕ) → Outcome from j t (convert from j t)
convert_cases from j t = go (rows_in from j) refl
  where
    fitting : (rs : List Row) → rows_in from j ≡ rows rs → (b : Bool) → leb (length (journal_in (other from) rs)) (length t) ≡ b
        → Outcome from j t (convert from j t)
    fitting rs e true q = let h = leb-true (length (journal_in (other from) rs)) (length t) q in rw (convert_done from j t rs e h) (done rs e h)
    fitting rs e false q = let h = leb-false (length (journal_in (other from) rs)) (length t) q in rw (convert_short from j t rs e h) (short rs e h)

    go : (w : Way) → rows_in from j ≡ w → Outcome from j t (convert from j t)
    go torn e = rw (convert_torn from j t e) (not_well_shaped e)
    go (rows rs) e = fitting rs e (leb (length (journal_in (other from) rs)) (length t)) refl

-- ---- a whole well-shaped journal of either form, and back through the other
module _ (from : Form) (j t u : List ℕ) (rs : List Row) (bytes : Bytes j) (shaped : rows_in from j ≡ rows rs)
    (room : length (journal_in (other from) rs) ≤ length t) (room_back : length j ≤ length u) where
  abbrev posted : List ℕ
  posted = take (convert from j t).a.length (convert from j t).target

  posted_is : posted ≡ journal_in (other from) rs
  posted_is =
      let b = journal_in (other from) rs in
      rw (convert_done from j t rs shaped room) (take_at b (drop (0 + length b) t) (length b) refl)

  pub there_and_back : convert (other from) posted u ≡ record { target = written u 0 j; a = record { number = 0; length = length j } }
  there_and_back =
      let w = journal_of_rows from j rs shaped bytes in
      let again : rows_in (other from) (journal_in (other from) rs) ≡ rows rs = rows_of_journal (other from) rs w.1 in
      let same : journal_in (other (other from)) rs ≡ j = ap (λ (f : Form). journal_in f rs) (other_of_other from) ∙ sym w.0 in
      ap (λ (l : List ℕ). convert (other from) l u) posted_is
      ∙ convert_done (other from) (journal_in (other from) rs) u rs again (rw same room_back)
      ∙ rw same

-- ---- the same of a conversion that was done: number 0
pub shaped_when_done : (from : Form) (j t : List ℕ) → (convert from j t).a.number ≡ 0
    → (rs : List Row) × (rows_in from j ≡ rows rs) × (length (journal_in (other from) rs) ≤ length t)
shaped_when_done from j t e = go (convert from j t) (convert_cases from j t) e
  where
    go : (c : FormCall) → Outcome from j t c → c.a.number ≡ 0
        → (rs : List Row) × (rows_in from j ≡ rows rs) × (length (journal_in (other from) rs) ≤ length t)
    go c (not_well_shaped q) z = absurd (omega (arith, z))
    go c (short rs q h) z = absurd (omega (arith, z))
    go c (done rs q h) z = (rs, q, h)

pub back_when_done : (from : Form) (j t u : List ℕ) → Bytes j → (convert from j t).a.number ≡ 0 → length j ≤ length u
    → convert (other from) (take (convert from j t).a.length (convert from j t).target) u
    ≡ record { target = written u 0 j; a = record { number = 0; length = length j } }
back_when_done from j t u b e room =
    let w = shaped_when_done from j t e in
    there_and_back from j t u w.0 b w.1 w.2 room

-- ---- targets that are always long enough
module _ (rs : List Row) (g : AllGood Addresses rs) where
  pub two_at_most_in_all : 2 * length (journal_in Two rs) ≤ 3 * length (journal_in One rs)
  two_at_most_in_all = go rs g
    where
      go : (xs : List Row) → AllGood Addresses xs → 2 * length (journal_in Two xs) ≤ 3 * length (journal_in One xs)
      go [] h = omega arith
      go (x ∷ xs) h =
          omega (
            arith,
            go xs h.1,
            two_at_most x h.0,
            length-append (record_in Two x) (journal_in Two xs),
            length-append (record_in One x) (journal_in One xs),
          )

  pub one_at_most_in_all : length (journal_in One rs) ≤ 5 * length (journal_in Two rs)
  one_at_most_in_all = go rs g
    where
      go : (xs : List Row) → AllGood Addresses xs → length (journal_in One xs) ≤ 5 * length (journal_in Two xs)
      go [] h = omega arith
      go (x ∷ xs) h =
          omega (
            arith,
            go xs h.1,
            one_at_most x h.0,
            length-append (record_in Two x) (journal_in Two xs),
            length-append (record_in One x) (journal_in One xs),
          )

-- half again the journal's length for form 2, five times for form 1: then 11 is not given
pub never_short_to_two : (j t : List ℕ) → Bytes j → 3 * length j ≤ 2 * length t + 1 → (convert One j t).a.number ≡ too_short → ⊥
never_short_to_two j t b room e = go (convert One j t) (convert_cases One j t) e
  where
    go : (c : FormCall) → Outcome One j t c → c.a.number ≡ too_short → ⊥
    go c (not_well_shaped q) z = omega (arith, z)
    go c (short rs q h) z =
        let w = journal_of_rows One j rs q b in
        omega (arith, h, room, ap length w.0, two_at_most_in_all rs w.1)
    go c (done rs q h) z = omega (arith, z)

pub never_short_to_one : (j t : List ℕ) → Bytes j → 5 * length j ≤ length t → (convert Two j t).a.number ≡ too_short → ⊥
never_short_to_one j t b room e = go (convert Two j t) (convert_cases Two j t) e
  where
    go : (c : FormCall) → Outcome Two j t c → c.a.number ≡ too_short → ⊥
    go c (not_well_shaped q) z = omega (arith, z)
    go c (short rs q h) z =
        let w = journal_of_rows Two j rs q b in
        omega (arith, h, room, ap length w.0, one_at_most_in_all rs w.1)
    go c (done rs q h) z = omega (arith, z)
