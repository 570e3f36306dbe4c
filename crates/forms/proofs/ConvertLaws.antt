-- ConvertLaws.antt - a whole journal in the code: one law for each turn or return.
-- Speaks of: ConvertedIs, SpaceIs and MeasuredIs of specs/Answers.antt, convert of specs/Forms.antt.  Assumes nothing.  Source: [K8].
use Prim.Native.Nat.{ℕ, zero, suc, ◌+◌, ◌-◌, ◌≤◌, ◌<◌}
use mathlib.Core.Path.{◌≡◌, refl, sym, ap, ◌∙◌}
use mathlib.Core.List.{List, [], ◌∷◌, ◌++◌, append_assoc}
use native.Mathlib.Nat.{zero-add}
use native.Mathlib.Omega.{arith}
use lib.ListN.{length, get_or, take, drop, length-append}
use lib.Seq.{take_at, drop_at, drop-drop, take-take, take-append-le, length-take-le}
use borrow.Rule.Slice.PartMut.{put_mid, post_of}
use Rattle.codes.specs.Codes.{Addresses}
use Rattle.numbers.specs.Number.{back, written}
use Rattle.numbers.proofs.WrittenLaws.{length_written}
use Rattle.record.specs.Limits.{longest_record_two}
use Rattle.undo.specs.Undo.{found, none}
use Rattle.oldest.specs.Room.{Row, rows, torn, read_rows}
use Rattle.oldest.proofs.WayLaws.{octets_back, way_torn, way_more, way_end}
use Rattle.oldest.proofs.RowLaws.{rows_append, older_when_read}
use Rattle.runs.specs.Answers.{BytesPut}
use Rattle.forms.specs.declared.Form.{Form}
use Rattle.forms.specs.declared.FormAnswer.{FormAnswer}
use Rattle.forms.specs.declared.Unfit.{Unfit}
use Rattle.forms.specs.declared.Unfit.TheVariants.{NotShaped, TooShort}
use Rattle.std.specs.Prelude.{Option, Ok, Err}
use Rattle.forms.specs.Forms.{other, record_in, read_in, journal_in, rows_in, not_shaped, too_short, FormCall, convert}
use Rattle.forms.specs.Promises.{ConvertPromise}
use Rattle.forms.specs.Answers.{SpaceIs, MeasuredIs, refusal}
use Rattle.forms.proofs.FormLaws.{form_puts, longest_in}
use Rattle.forms.proofs.JournalLaws.{convert_torn, convert_short, convert_done}

-- ---- one record
-- a record that was read fits into out, and stands there
pub other_fits : (form : Form) (j : List ℕ) (mark : ℕ) (r : Row) (t : List ℕ) → mark ≤ length j → ((k : ℕ) → get_or j k 0 < 256)
    → read_in form (back j mark) ≡ found r.slots r.bytes t → length (record_in (other form) r) ≤ longest_record_two
other_fits form j mark r t inside octets e =
    longest_in (other form) r (form_puts form (back j mark) r.slots r.bytes t e (octets_back j octets mark inside)).1

pub put_taken : (out₀ bs out : List ℕ) (r : ℕ) → BytesPut out₀ 0 bs out r → length bs ≤ length out₀
    → (r ≡ length bs) × (take r out ≡ bs) × (r ≤ length out)
put_taken out₀ bs out r w h =
    let e : r ≡ length bs = w.place ∙ zero-add (length bs) in
    let len : length out ≡ length out₀ = ap length w.bytes ∙ length_written out₀ 0 bs (omega arith) in
    (e, ap (λ (k : ℕ). take k out) e ∙ ap (take (length bs)) w.bytes ∙ take_at bs (drop (0 + length bs) out₀) (length bs) refl, omega (arith, len))

-- ---- a copy
pub copied_in : (t : List ℕ) (p n : ℕ) (bs : List ℕ) → length bs ≡ n → put_mid p n t bs ≡ written t p bs
copied_in t p n bs e =
    sym (append_assoc (take p t) bs (post_of p n t))
    ∙ ap (λ (l : List ℕ). take p t ++ bs ++ l) (drop-drop n p t ∙ ap (λ (k : ℕ). drop (p + k) t) (sym e))

-- ---- space
pub space_more : (form : Form) (space len : ℕ) (r : Row) (acc : List Row) (s : Option ℕ) → len ≡ length (record_in form r)
    → SpaceIs space (len + length (journal_in form acc)) s
    → SpaceIs space (length (journal_in form (r ∷ acc))) s
space_more form space len r acc s e w =
    let q : len + length (journal_in form acc) ≡ length (record_in form r ++ journal_in form acc) = omega (
      arith,
      length-append (record_in form r) (journal_in form acc),
    ) in
    rw (← q) w

-- ---- the way back through the journal: the records acc were read, and those below place e are left
pub record Passed (form : Form) (j : List ℕ) (e : ℕ) (acc : List Row) : Type 0 where
  pub fuel : ℕ
  pub enough : e ≤ fuel
  pub inside : e ≤ length j
  pub way : rows_in form j ≡ read_rows (read_in form) fuel (back j e) acc

pub passed_start : (form : Form) (j : List ℕ) → Passed form j (length j) []
unfolding rows_in
passed_start form j = record { fuel = length j; enough = omega arith; inside = omega arith; way = refl }

module _ (form : Form) (j : List ℕ) (e : ℕ) (acc : List Row) (some : 0 < e) (p : Passed form j e acc) where
  pub passed_torn : read_in form (back j e) ≡ none → rows_in form j ≡ torn
  passed_torn q = p.way ∙ way_torn (read_in form) j e some p.inside p.fuel acc p.enough q

  pub passed_more : (r : Row) (s : ℕ) → s < e → read_in form (back j e) ≡ found r.slots r.bytes (back j s) → Passed form j s (r ∷ acc)
  passed_more r s less q =
      record {
        fuel = p.fuel - 1;
        enough = omega (arith, p.enough);
        inside = omega (arith, p.inside);
        way = p.way ∙ way_more (read_in form) j e some p.inside p.fuel acc p.enough r.slots r.bytes s q;
      }

pub passed_end : (form : Form) (j : List ℕ) (e : ℕ) (acc : List Row) → e ≡ 0 → Passed form j e acc → rows_in form j ≡ rows acc
passed_end form j e acc z p = p.way ∙ way_end (read_in form) p.fuel j e acc z

-- ---- writing from the end
written_before : (l : List ℕ) (at : ℕ) (bs cs : List ℕ) → at + length bs + length cs ≤ length l
    → written (written l (at + length bs) cs) at bs ≡ written l at (bs ++ cs)
written_before l at bs cs h =
    let m = at + length bs in
    let d = drop (m + length cs) l in
    let flat : written l m cs ≡ take m l ++ (cs ++ d) = append_assoc (take m l) cs d in
    let len : length (take m l) ≡ m = length-take-le m l (omega arith) in
    let head : take at (written l m cs) ≡ take at l =
    ap (take at) flat ∙ take-append-le at (take m l) (cs ++ d) (omega (arith, len)) ∙ take-take at m l (omega arith) in
    let tail : drop m (written l m cs) ≡ cs ++ d = ap (drop m) flat ∙ drop_at (take m l) (cs ++ d) m len in
    let place : m + length cs ≡ at + length (bs ++ cs) = omega (arith, length-append bs cs) in
    ap (λ (x : List ℕ). x ++ bs ++ drop m (written l m cs)) head
    ∙ ap (λ (x : List ℕ). take at l ++ bs ++ x) tail
    ∙ sym (append_assoc (take at l ++ bs) cs d)
    ∙ ap (λ (x : List ℕ). x ++ d) (append_assoc (take at l) bs cs)
    ∙ ap (λ (k : ℕ). take at l ++ (bs ++ cs) ++ drop k l) place

-- the next record has room below what is written
pub room_below : (form : Form) (j : List ℕ) (rs : List Row) → ((k : ℕ) → get_or j k 0 < 256) → (e : ℕ) (r : Row) (acc : List Row)
    → rows_in form j ≡ rows rs
    → Passed form j e (r ∷ acc) → length (record_in (other form) r) + length (journal_in (other form) acc) ≤ length (journal_in (other form) rs)
room_below form j rs octets e r acc q p =
    let put = record_in (other form) in
    let w = older_when_read (read_in form) (record_in form) Addresses (form_puts form) p.fuel (back j e) (r ∷ acc) rs (sym p.way
    ∙ q) (octets_back j octets e p.inside) in
    let same : journal_in (other form) rs ≡ journal_in (other form) w.0 ++ (put r ++ journal_in (other form) acc) =
    ap (journal_in (other form)) w.1 ∙ rows_append put w.0 (r ∷ acc) in
    omega (
      arith,
      ap length same,
      length-append (journal_in (other form) w.0) (put r ++ journal_in (other form) acc),
      length-append (put r) (journal_in (other form) acc),
    )

pub copied : (t₀ t out : List ℕ) (p len : ℕ) (one acc : List ℕ) → len ≡ length one → take len out ≡ one → len ≤ p → t ≡ written t₀ p acc
    → p + length acc ≤ length t₀
    → written t (p - len) (take len out) ≡ written t₀ (p - len) (one ++ acc)
copied t₀ t out p len one acc e q h w room =
    let place : p - len + length one ≡ p = omega arith in
    rw (q, w) (ap (λ (k : ℕ). written (written t₀ k acc) (p - len) one) (sym place) ∙ written_before t₀ (p - len) one acc (omega arith))

torn_not : {A : Type 0} (rs : List Row) → torn ≡ rows rs → A
torn_not rs e = absurd (let x : ◌≡◌ {A = ℕ} 0 1 = cc in omega arith)

pub never_torn : {A : Type 0} (form : Form) (j : List ℕ) (rs : List Row) → rows_in form j ≡ rows rs → rows_in form j ≡ torn → A
never_torn form j rs e f = torn_not rs (sym f ∙ e)

-- where a journal of records has no record more, all were read
pub passed_all : (form : Form) (j : List ℕ) (e : ℕ) (acc rs : List Row) → Passed form j e acc → rows_in form j ≡ rows rs
    → read_in form (back j e) ≡ none → e ≡ 0
passed_all form j zero acc rs p q n = refl
passed_all form j (suc e) acc rs p q n = never_torn form j rs q (passed_torn form j (suc e) acc (omega arith) p n)

rows_same : (a b : List Row) → rows a ≡ rows b → a ≡ b
rows_same a b e = cc

pub written_all : (form : Form) (j t₀ t : List ℕ) (rs acc : List Row) (p : ℕ) → rows_in form j ≡ rows rs → rows_in form j ≡ rows acc
    → length (journal_in (other form) rs) ≤ length t₀
    → p + length (journal_in (other form) acc) ≡ length (journal_in (other form) rs) → t ≡ written t₀ p (journal_in (other form) acc)
    → t ≡ (convert form j t₀).target
written_all form j t₀ t rs acc p e f room place w =
    let same : acc ≡ rs = rows_same acc rs (sym f ∙ e) in
    let start : p ≡ 0 = omega (arith, place, ap (λ (l : List Row). length (journal_in (other form) l)) same) in
    w ∙ ap (λ (k : ℕ). written t₀ k (journal_in (other form) acc)) start ∙ ap (λ (l : List Row). written t₀ 0 (journal_in (other form) l)) same
    ∙ ap (λ (r : FormCall). r.target) (sym (convert_done form j t₀ rs e room))

-- ---- the promise, by what measuring said
promised : (form : Form) (j t t' : List ℕ) (a : FormAnswer) → convert form j t ≡ record { target = t'; a = a } → ConvertPromise form j t t' a
promised form j t t' a e = record { target = ap (λ (r : FormCall). r.target) (sym e); answer = ap (λ (r : FormCall). r.a) (sym e) }

module _ (form : Form) (j t : List ℕ) where
  pub promise_when_unfit : (u : Unfit) → MeasuredIs form j (length t) (Err u) → ConvertPromise form j t t (record { number = refusal u; length = 0 })
  promise_when_unfit NotShaped e = promised form j t t (record { number = not_shaped; length = 0 }) (convert_torn form j t e)
  promise_when_unfit TooShort w = promised form j t t (record { number = too_short; length = 0 }) (convert_short form j t w.0 w.1 w.2)

  pub promise_when_fits : (k : ℕ) (t' : List ℕ) → MeasuredIs form j (length t) (Ok k) → t' ≡ (convert form j t).target
      → ConvertPromise form j t t' (record { number = 0; length = k })
  promise_when_fits k t' w e =
      let done = convert_done form j t w.0 w.1 (omega (arith, w.2, w.3)) in
      record { target = e; answer = rw done (ap (λ (n : ℕ). record { number = 0; length = n }) w.2) }
