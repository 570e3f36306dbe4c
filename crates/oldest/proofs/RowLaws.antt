-- RowLaws.antt - a record that was read well shaped reads the same wherever its bytes stand; so the records are known after a drop or a step.
-- Speaks of: read_rows and rows_of of specs/Room.antt, shaped_record of undo.
-- Assumes nothing.  Source: [K5].
use Rattle.std.proofs.Common.{◌≡◌, ℕ, zero, suc, ◌+◌, ◌-◌, ◌*◌, ◌^◌, ◌≤◌, true, List, [], ◌∷◌, ◌++◌, reverse, length, take, drop, sym, refl, ap, ◌∙◌, append_assoc, append-nil, zero-add, arith, length-append, length-take-le}
use mathlib.Core.List.{reverse-append, reverse-reverse}
use lib.ListN.{length-reverse}
use Rattle.numbers.specs.Number.{number_bytes, back, written}
use Rattle.numbers.proofs.NumberLaws.{Bytes, bytes_rest, number_bytes_some}
use Rattle.numbers.proofs.WrittenLaws.{back_written}
use Rattle.record.specs.Limits.{slot_limit, byte_limit, valid_value, valid_byte}
use Rattle.record.specs.Change.{Change, Ascending, ByteOlds, changes_bytes, record_of}
use Rattle.record.proofs.DiffLaws.{Small}
use Rattle.undo.specs.Undo.{Record, found, none, all_valid, shaped_record}
use Rattle.undo.proofs.JudgeLaws.{olds_of_valid, shaped_valid, shaped_found}
use Rattle.undo.proofs.ShapeLaws.{sound_when_read, bytes_of_shaped_record, record_not_empty}
use Rattle.undo.proofs.UndoLaws.{read_of_record_of}
use Rattle.oldest.specs.Room.{Row, row_bytes, rows_by, rows_bytes, Way, rows, torn, at_end, more_rows, read_rows, rows_of}
use Rattle.oldest.proofs.WayLaws.{back_none}

-- ---- a record that reads the same wherever it stands
pub record Good (len : ℕ) (r : Row) : Type 0 where
  pub few_slots : length r.slots ≤ slot_limit
  pub few_bytes : length r.bytes ≤ byte_limit
  pub slots_ascend : Ascending 0 slot_limit r.slots
  pub bytes_ascend : Ascending 0 len r.bytes
  pub slots_small : Small r.slots
  pub bytes_small : Small r.bytes
  pub slots_valid : all_valid valid_value r.slots ≡ true
  pub bytes_valid : all_valid valid_byte r.bytes ≡ true

abbrev pub AllGood : ℕ → List Row → Type 0
AllGood len [] = Unit {0}
AllGood len (r ∷ rs) = Good len r × AllGood len rs

pub row_read : (len : ℕ) (r : Row) (s : List ℕ) → len ≤ 2 ^ 32 → Good len r
    → shaped_record len (reverse (row_bytes r) ++ s) ≡ found r.slots r.bytes s
row_read len r s fits g =
    shaped_found len (reverse (row_bytes r) ++ s) r.slots r.bytes s
    (read_of_record_of len r.slots r.bytes s g.few_slots g.few_bytes fits g.slots_ascend g.bytes_ascend g.slots_small
    g.bytes_small)
    g.slots_valid g.bytes_valid

pub small_of_olds : (cs : List Change) → ByteOlds cs → Small cs
small_of_olds [] b = tt
small_of_olds (c ∷ cs) b = (omega (arith, b.0), small_of_olds cs b.1)

pub good_when_shaped : (len : ℕ) (s : List ℕ) (ss bs : List Change) (r : List ℕ) → shaped_record len s ≡ found ss bs r → Bytes s
    → Good len (record { slots = ss; bytes = bs })
good_when_shaped len s ss bs r e h =
    let v = shaped_valid len s ss bs r e in
    let w = sound_when_read len s ss bs r v.0 h in
    record {
      few_slots = w.few_slots;
      few_bytes = w.few_bytes;
      slots_ascend = w.slots_ascend;
      bytes_ascend = w.bytes_ascend;
      slots_small = w.slots_small;
      bytes_small = small_of_olds bs (olds_of_valid bs v.2);
      slots_valid = v.1;
      bytes_valid = v.2;
    }

-- ---- what reads as records is their bytes
not_torn : {A : Type 0} (rs : List Row) → torn ≡ rows rs → A
not_torn rs e = absurd (let z : ◌≡◌ {A = ℕ} 0 1 = cc in omega arith)

abbrev More : (List ℕ → List Row → Way) → List Row → Record → List Row → Type 0
More f acc w rs =
    (ss : List Change)
    × (bs : List Change)
    × (t : List ℕ)
    × (w ≡ found ss bs t)
    × (f t (record { slots = ss; bytes = bs } ∷ acc) ≡ rows rs)

more_inv : (f : List ℕ → List Row → Way) (acc : List Row) (w : Record) (rs : List Row) → more_rows f acc w ≡ rows rs → More f acc w rs
more_inv f acc none rs e = not_torn rs e
more_inv f acc (found ss bs t) rs e = (ss, bs, t, refl, e)

pub rows_append : (put : Row → List ℕ) (a b : List Row) → rows_by put (a ++ b) ≡ rows_by put a ++ rows_by put b
rows_append put [] b = refl
rows_append put (r ∷ a) b = ap (λ (x : List ℕ). put r ++ x) (rows_append put a b) ∙ sym (append_assoc (put r) (rows_by put a) (rows_by put b))

pub rows_bytes_append : (a b : List Row) → rows_bytes (a ++ b) ≡ rows_bytes a ++ rows_bytes b
rows_bytes_append a b = rows_append row_bytes a b

pub good_append : (len : ℕ) (a b : List Row) → AllGood len a → AllGood len b → AllGood len (a ++ b)
good_append len [] b g h = h
good_append len (r ∷ a) b g h = (g.0, good_append len a b g.1 h)

-- what a reader finds is bytes that put writes, of a well-shaped record for a memory of len bytes
abbrev pub Puts : (List ℕ → Record) → (Row → List ℕ) → ℕ → Type 0
Puts read put len =
    (s : List ℕ) (ss bs : List Change) (t : List ℕ) → read s ≡ found ss bs t → Bytes s
    → (s ≡ reverse (put (record { slots = ss; bytes = bs })) ++ t) × Good len (record { slots = ss; bytes = bs })

pub record_puts : (len : ℕ) → Puts (shaped_record len) row_bytes len
record_puts len s ss bs t e h = (bytes_of_shaped_record len s ss bs t e h, good_when_shaped len s ss bs t e h)

module _ (read : List ℕ → Record) (put : Row → List ℕ) (len : ℕ) (puts : Puts read put len) where
  -- the records rs, of which acc were read before: the older ones, and their bytes
  abbrev pub Older : List ℕ → List Row → List Row → Type 0
  Older s acc rs = (os : List Row) × (rs ≡ os ++ acc) × (reverse s ≡ rows_by put os) × AllGood len os

  older_end : (acc rs : List Row) → rows acc ≡ rows rs → Older [] acc rs
  older_end acc rs e = let same : acc ≡ rs = cc in ([], sym same, refl, tt)

  older_more : (s t : List ℕ) (r : Row) (acc rs : List Row) → Good len r → s ≡ reverse (put r) ++ t → Older t (r ∷ acc) rs → Older s acc rs
  older_more s t r acc rs g e w = (
    w.0 ++ r ∷ [],
    w.1 ∙ sym (append_assoc w.0 (r ∷ []) acc),
    ap reverse e ∙ reverse-append (reverse (put r)) t ∙ ap (λ (x : List ℕ). reverse t ++ x) (reverse-reverse (put r))
        ∙ ap (λ (x : List ℕ). x ++ put r) w.2
        ∙ sym (rows_append put w.0 (r ∷ []) ∙ ap (λ (x : List ℕ). rows_by put w.0 ++ x) (append-nil (put r))),
    good_append len w.0 (r ∷ []) w.3 (g, tt),
  )

  pub older_when_read : (f : ℕ) (s : List ℕ) (acc rs : List Row) → read_rows read f s acc ≡ rows rs → Bytes s → Older s acc rs
  older_when_read zero [] acc rs e h = older_end acc rs e
  older_when_read zero (x ∷ s) acc rs e h = not_torn rs e
  older_when_read (suc f) [] acc rs e h = older_end acc rs e
  older_when_read (suc f) (x ∷ s) acc rs e h =
      go (more_inv (read_rows read f) acc (read (x ∷ s)) rs e) (λ t ac q b. older_when_read f t ac rs q b)
    where
      go : More (read_rows read f) acc (read (x ∷ s)) rs
          → ((t : List ℕ) (ac : List Row) → read_rows read f t ac ≡ rows rs → Bytes t → Older t ac rs) → Older (x ∷ s) acc rs
      go w ih =
          let t = w.2 in
          let r : Row = record { slots = w.0; bytes = w.1 } in
          let p = puts (x ∷ s) w.0 w.1 t w.3 h in
          let older = ih t (r ∷ acc) w.4 (bytes_rest (x ∷ s) (reverse (put r)) t p.0 h) in
          older_more (x ∷ s) t r acc rs p.1 p.0 older

-- below the mark stand the records' bytes
pub bytes_of_rows : (len : ℕ) (j : List ℕ) (mark : ℕ) (rs : List Row) → rows_of len j mark ≡ rows rs → Bytes (back j mark)
    → (take mark j ≡ rows_bytes rs) × AllGood len rs
unfolding rows_of back
bytes_of_rows len j mark rs e h =
    let w = older_when_read (shaped_record len) row_bytes len (record_puts len) mark (reverse (take mark j)) [] rs e h in
    let same : rs ≡ w.0 = w.1 ∙ append-nil w.0 in
    (sym (reverse-reverse (take mark j)) ∙ w.2 ∙ ap rows_bytes (sym same), rw same w.3)

-- ---- the bytes of well-shaped records read as them
read_none : (read : List ℕ → Record) (f : ℕ) (acc : List Row) → read_rows read f [] acc ≡ rows acc
read_none read zero acc = refl
read_none read (suc f) acc = refl

-- the bytes that put writes of a well-shaped record, which are some, are found by a reader as that record
abbrev pub Reads : (List ℕ → Record) → (Row → List ℕ) → ℕ → Type 0
Reads read put len = (r : Row) (s : List ℕ) → Good len r → (read (reverse (put r) ++ s) ≡ found r.slots r.bytes s) × (1 ≤ length (put r))

pub record_reads : (len : ℕ) → len ≤ 2 ^ 32 → Reads (shaped_record len) row_bytes len
record_reads len fits r s g = (row_read len r s fits g, record_not_empty r.slots r.bytes)

module _ (read : List ℕ → Record) (put : Row → List ℕ) (len : ℕ) (reads : Reads read put len) where
  some_left : (r : Row) (s : List ℕ) → 1 ≤ length (put r) → (a b : Way) → at_end (reverse (put r) ++ s) a b ≡ b
  some_left r s some a b = go (reverse (put r) ++ s) (omega (arith, length-append (reverse (put r)) s, length-reverse (put r), some))
    where
      go : (l : List ℕ) → 1 ≤ length l → at_end l a b ≡ b
      go [] h = absurd (omega arith)
      go (x ∷ l) h = refl

  row_more : (f : ℕ) (r : Row) (s : List ℕ) (acc : List Row) → Good len r
      → read_rows read (suc f) (reverse (put r) ++ s) acc ≡ read_rows read f s (r ∷ acc)
  row_more f r s acc g =
      let w = reads r s g in
      some_left r s w.1 (rows acc) (more_rows (read_rows read f) acc (read (reverse (put r) ++ s))) ∙ ap (more_rows (read_rows read f) acc) w.0

  pub rows_read_by : (rs : List Row) (f : ℕ) (s : List ℕ) (acc : List Row) → AllGood len rs
      → read_rows read (length rs + f) (reverse (rows_by put rs) ++ s) acc ≡ read_rows read f s (rs ++ acc)
  rows_read_by [] f s acc g = ap (λ (k : ℕ). read_rows read k s acc) (zero-add f)
  rows_read_by (r ∷ rs) f s acc g =
      let count : length (r ∷ rs) + f ≡ length rs + suc f = omega arith in
      let text : reverse (rows_by put (r ∷ rs)) ++ s ≡ reverse (rows_by put rs) ++ (reverse (put r) ++ s) =
      rw (reverse-append (put r) (rows_by put rs)) (append_assoc (reverse (rows_by put rs)) (reverse (put r)) s) in
      ap (λ (k : ℕ). read_rows read k (reverse (rows_by put (r ∷ rs)) ++ s) acc) count
      ∙ ap (λ (t : List ℕ). read_rows read (length rs + suc f) t acc) text
      ∙ rows_read_by rs (suc f) (reverse (put r) ++ s) acc g.1
      ∙ row_more f r s (rs ++ acc) g.0

  pub rows_few : (rs : List Row) → AllGood len rs → length rs ≤ length (rows_by put rs)
  rows_few [] g = omega arith
  rows_few (r ∷ rs) g = omega (arith, rows_few rs g.1, (reads r [] g.0).1, length-append (put r) (rows_by put rs))

  -- all of them, from their end: as many as there are bytes suffice
  pub all_read : (rs : List Row) → AllGood len rs → read_rows read (length (rows_by put rs)) (reverse (rows_by put rs)) [] ≡ rows rs
  all_read rs g =
      let f = length (rows_by put rs) - length rs in
      let count : length (rows_by put rs) ≡ length rs + f = omega (arith, rows_few rs g) in
      ap (λ (s : List ℕ). read_rows read (length (rows_by put rs)) s []) (sym (append-nil (reverse (rows_by put rs))))
      ∙ ap (λ (k : ℕ). read_rows read k (reverse (rows_by put rs) ++ []) []) count
      ∙ rows_read_by rs f [] [] g
      ∙ read_none read f (rs ++ [])
      ∙ ap rows (append-nil rs)

pub rows_read : (rs : List Row) (f len : ℕ) (s : List ℕ) (acc : List Row) → len ≤ 2 ^ 32 → AllGood len rs
    → read_rows (shaped_record len) (length rs + f) (reverse (rows_bytes rs) ++ s) acc ≡ read_rows (shaped_record len) f s (rs ++ acc)
rows_read rs f len s acc fits g = rows_read_by (shaped_record len) row_bytes len (record_reads len fits) rs f s acc g

-- each is two bytes at least: its counts
row_weight : (r : Row) → 2 ≤ length (row_bytes r)
unfolding record_of
row_weight r =
    let front = changes_bytes r.slots ++ changes_bytes r.bytes in
    let slots = number_bytes (length r.slots) in
    let bytes = number_bytes (length r.bytes) in
    omega (
      arith,
      length-append (front ++ slots) bytes,
      length-append front slots,
      number_bytes_some (length r.slots),
      number_bytes_some (length r.bytes),
    )

pub rows_weight : (rs : List Row) → 2 * length rs ≤ length (rows_bytes rs)
rows_weight [] = omega arith
rows_weight (r ∷ rs) = omega (arith, rows_weight rs, length-append (row_bytes r) (rows_bytes rs), row_weight r)

pub rows_count : (rs : List Row) → length rs ≤ length (rows_bytes rs)
rows_count rs = omega (arith, rows_weight rs)

pub rows_of_bytes : (len : ℕ) (j : List ℕ) (rs : List Row) → len ≤ 2 ^ 32 → AllGood len rs
    → back j (length (rows_bytes rs)) ≡ reverse (rows_bytes rs) → rows_of len j (length (rows_bytes rs)) ≡ rows rs
unfolding rows_of
rows_of_bytes len j rs fits g e =
    ap (λ (s : List ℕ). read_rows (shaped_record len) (length (rows_bytes rs)) s []) e
    ∙ all_read (shaped_record len) row_bytes len (record_reads len fits) rs g

-- ---- known without reading again
pub back_as_reverse : (l : List ℕ) (e : ℕ) → back l e ≡ reverse (take e l)
unfolding back
back_as_reverse l e = refl

pub good_drop : (len k : ℕ) (rs : List Row) → AllGood len rs → AllGood len (drop k rs)
good_drop len zero rs g = g
good_drop len (suc k) [] g = tt
good_drop len (suc k) (r ∷ rs) g = good_drop len k rs g.1

pub rows_after_room : (len : ℕ) (j : List ℕ) (rs : List Row) → len ≤ 2 ^ 32 → AllGood len rs → length (rows_bytes rs) ≤ length j
    → rows_of len (written j 0 (rows_bytes rs)) (length (rows_bytes rs)) ≡ rows rs
rows_after_room len j rs fits g room =
    let b = rows_bytes rs in
    let at : 0 + length b ≡ length b = zero-add (length b) in
    let stands : back (written j 0 b) (length b) ≡ reverse b =
    ap (back (written j 0 b)) (sym at) ∙ back_written j 0 b (omega arith) ∙ ap (λ (x : List ℕ). reverse b ++ x) (back_none j)
    ∙ append-nil (reverse b) in
    rows_of_bytes len (written j 0 b) rs fits g stands

pub rows_after_step : (len : ℕ) (j : List ℕ) (mark : ℕ) (rs : List Row) (r : Row) → len ≤ 2 ^ 32 → mark + length (row_bytes r) ≤ length j
    → Bytes (back j mark)
    → rows_of len j mark ≡ rows rs → Good len r → rows_of len (written j mark (row_bytes r)) (mark + length (row_bytes r)) ≡ rows (rs ++ r ∷ [])
rows_after_step len j mark rs r fits room octets e g =
    let b = row_bytes r in
    let all = rs ++ r ∷ [] in
    let w = bytes_of_rows len j mark rs e octets in
    let text : rows_bytes all ≡ rows_bytes rs ++ b = rows_bytes_append rs (r ∷ []) ∙ ap (λ (x : List ℕ). rows_bytes rs ++ x) (append-nil b) in
    let size : mark + length b ≡ length (rows_bytes all) =
    omega (arith, ap length text, length-append (rows_bytes rs) b, ap length w.0, length-take-le mark j (omega arith)) in
    let before : back j mark ≡ reverse (rows_bytes rs) = back_as_reverse j mark ∙ ap reverse w.0 in
    let stands : back (written j mark b) (mark + length b) ≡ reverse (rows_bytes all) =
    back_written j mark b room ∙ ap (λ (x : List ℕ). reverse b ++ x) before ∙ sym (ap reverse text ∙ reverse-append (rows_bytes rs) b) in
    ap (rows_of len (written j mark b)) size
    ∙ rows_of_bytes len (written j mark b) all fits (good_append len rs (r ∷ []) w.1 (g, tt))
    (ap (back (written j mark b)) (sym size) ∙ stands)
