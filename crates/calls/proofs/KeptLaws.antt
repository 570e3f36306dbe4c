-- KeptLaws.antt - the records of steps taken alone, as rows that are well shaped; what is left of a journal once the oldest records are dropped.
-- * records_as_rows, rows_alone_good, rows_alone_drop: the records of the last k steps, and those of them that a drop leaves.
-- * older: what the journal holds before rows that are known; rows_bytes_unique: bytes are those of one list of rows only.
-- * left_over_drop: what is left over, once more records are dropped from it. mark_when_none_dropped: room by which none goes.
-- * records_length: the joint length of all the records; records_longer: more of them are more bytes.
-- Source: [00 demand 3], [01 The journal], [K5].
use Prim.Native.Nat.{ℕ, zero, suc, ◌+◌, ◌-◌, ◌^◌, ◌≤◌, ◌<◌}
use mathlib.Core.Path.{◌≡◌, refl, sym, ap, ap₂, ◌∙◌, subst}
use mathlib.Core.Bool.{Bool, true, false}
use mathlib.Core.List.{List, [], ◌∷◌, ◌++◌, append-nil, reverse, reverse-append, reverse-reverse}
use native.Mathlib.Omega.{arith}
use lib.ListN.{length, take, drop, length-append, drop_of_length-le}
use lib.Seq.{drop-append-le, drop-drop, drop-nil, take-length, length-take-le}
use lib.Dec.{leb}
use borrow.Author.Tests.{leb-true, leb-false}
use Rattle.numbers.specs.Number.{back}
use Rattle.numbers.proofs.NumberLaws.{Bytes, bytes_rest}
use Rattle.undo.specs.Undo.{shaped_record}
use Rattle.oldest.specs.Room.{Row, row_bytes, rows_bytes, rows, read_rows, rows_of, dropped, RoomCall, missing, make_room}
use Rattle.oldest.proofs.RowLaws.{Good, AllGood, back_as_reverse, rows_bytes_append, good_append, record_puts, older_when_read, bytes_of_rows}
use Rattle.oldest.proofs.RowLaws.{rows_read, rows_count, rows_of_bytes, good_drop}
use Rattle.oldest.proofs.RoomLaws.{Made, there, refused, on_the_way, dropping, made_cases}
use Rattle.calls.specs.History.{Machine, Request, Seen, record_after, one_more, taken_alone}
use Rattle.calls.specs.Kept.{records_alone, LeftOver, all_of_it, but_the_oldest}
use Rattle.calls.proofs.ValidLaws.{BoardFits, Lent, Valid, kept_by}
use Rattle.calls.proofs.JournalLaws.{row_after, row_after_bytes, row_after_good}
use Rattle.calls.proofs.ActLaws.{lent_after, record_after_some}
use Rattle.calls.proofs.BackLaws.{mark_after}

-- ---- steps taken alone, each from a valid state and with a window that fits
abbrev pub AllValid : List Request → Seen → Type 0
AllValid [] a = Unit {0}
AllValid (r ∷ rs) a =
    Valid (taken_alone rs a).slots (taken_alone rs a).memory × (BoardFits (taken_alone rs a).board (taken_alone rs a).memory) × AllValid rs a

pub lent_alone : (rs : List Request) (a : Seen) → Lent a.slots a.memory → AllValid rs a
    → Lent (taken_alone rs a).slots (taken_alone rs a).memory
lent_alone [] a lent h = lent
lent_alone (r ∷ rs) a lent h = lent_after r (taken_alone rs a) h.0

pub memory_alone : (rs : List Request) (a : Seen) → AllValid rs a → length (taken_alone rs a).memory ≡ length a.memory
unfolding one_more
memory_alone [] a h = refl
memory_alone (r ∷ rs) a h =
    let b = taken_alone rs a in
    (kept_by b.board b.slots b.memory r.level r.vector h.0).memory ∙ memory_alone rs a h.2

-- ---- their records as rows
abbrev pub rows_alone : ℕ → List Request → Seen → List Row
rows_alone zero rs a = []
rows_alone (suc k) [] a = []
rows_alone (suc k) (r ∷ rs) a = rows_alone k rs a ++ row_after r (taken_alone rs a) ∷ []

rows_bytes_last : (rs : List Row) (r : Row) → rows_bytes (rs ++ r ∷ []) ≡ rows_bytes rs ++ row_bytes r
rows_bytes_last rs r = rows_bytes_append rs (r ∷ []) ∙ ap (λ (l : List ℕ). rows_bytes rs ++ l) (append-nil (row_bytes r))

pub records_as_rows : (k : ℕ) (rs : List Request) (a : Seen) → records_alone k rs a ≡ rows_bytes (rows_alone k rs a)
records_as_rows zero rs a = refl
records_as_rows (suc k) [] a = refl
records_as_rows (suc k) (r ∷ rs) a =
    let b = taken_alone rs a in
    ap₂ (λ (l m : List ℕ). l ++ m) (records_as_rows k rs a) (row_after_bytes r b) ∙ sym (rows_bytes_last (rows_alone k rs a) (row_after r b))

pub rows_alone_good : (k : ℕ) (rs : List Request) (a : Seen) → AllValid rs a → AllGood (length a.memory) (rows_alone k rs a)
rows_alone_good zero rs a h = tt
rows_alone_good (suc k) [] a h = tt
rows_alone_good (suc k) (r ∷ rs) a h =
    let b = taken_alone rs a in
    let last = subst (λ (n : ℕ). Good n (row_after r b)) (memory_alone rs a h.2) (row_after_good r b h.0) in
    good_append (length a.memory) (rows_alone k rs a) (row_after r b ∷ []) (rows_alone_good k rs a h.2) (last, tt)

rows_alone_length : (k : ℕ) (rs : List Request) (a : Seen) → k ≤ length rs → length (rows_alone k rs a) ≡ k
rows_alone_length zero rs a h = refl
rows_alone_length (suc k) [] a h = absurd (omega arith)
rows_alone_length (suc k) (r ∷ rs) a h =
    omega (arith, length-append (rows_alone k rs a) (row_after r (taken_alone rs a) ∷ []), rows_alone_length k rs a (omega arith))

pub rows_alone_drop : (k i : ℕ) (rs : List Request) (a : Seen) → k ≤ length rs → drop i (rows_alone k rs a) ≡ rows_alone (k - i) rs a
rows_alone_drop zero i rs a h = let z : 0 ≡ 0 - i = omega arith in drop-nil i ∙ ap (λ (n : ℕ). rows_alone n rs a) z
rows_alone_drop (suc k) i [] a h = absurd (omega arith)
rows_alone_drop (suc k) i (r ∷ rs) a h = go (leb i k) refl (rows_alone_drop k i rs a (omega arith))
  where
    go : (t : Bool) → leb i k ≡ t → drop i (rows_alone k rs a) ≡ rows_alone (k - i) rs a
        → drop i (rows_alone (suc k) (r ∷ rs) a) ≡ rows_alone (suc k - i) (r ∷ rs) a
    go true q ih =
        let last = row_after r (taken_alone rs a) ∷ [] in
        let low = leb-true i k q in
        let count : suc (k - i) ≡ suc k - i = omega arith in
        drop-append-le i (rows_alone k rs a) last (omega (arith, rows_alone_length k rs a (omega arith)))
        ∙ ap (λ (l : List Row). l ++ last) ih
        ∙ ap (λ (n : ℕ). rows_alone n (r ∷ rs) a) count
    go false q ih =
        let high = leb-false i k q in
        let gone : 0 ≡ suc k - i = omega arith in
        drop_of_length-le (rows_alone (suc k) (r ∷ rs) a) {i = i} (omega (arith, rows_alone_length (suc k) (r ∷ rs) a h))
        ∙ ap (λ (n : ℕ). rows_alone n (r ∷ rs) a) gone

-- ---- their joint length
pub records_length : (rs : List Request) (a : Seen) → a.mark + length (records_alone (length rs) rs a) ≡ (taken_alone rs a).mark
records_length [] a = omega arith
records_length (r ∷ rs) a =
    let b = taken_alone rs a in
    omega (arith, records_length rs a, mark_after r b, length-append (records_alone (length rs) rs a) (record_after r b))

-- no record is empty, so more of them are more bytes
pub records_longer : (k l : ℕ) (rs : List Request) (a : Seen) → k < l → l ≤ length rs → length (records_alone k rs a) < length (records_alone l rs a)
records_longer k zero rs a h low = absurd (omega arith)
records_longer k (suc l) [] a h low = absurd (omega arith)
records_longer zero (suc l) (r ∷ rs) a h low =
    let b = taken_alone rs a in
    omega (arith, length-append (records_alone l rs a) (record_after r b), record_after_some r b)
records_longer (suc k) (suc l) (r ∷ rs) a h low =
    let b = taken_alone rs a in
    let shorter = length-append (records_alone k rs a) (record_after r b) in
    let longer = length-append (records_alone l rs a) (record_after r b) in
    omega (arith, shorter, longer, records_longer k l rs a (omega arith) (omega arith))

-- ---- what stands before rows that are known
module _ (len : ℕ) (fits : len ≤ 2 ^ 32) where
  module _ (j : List ℕ) (mark : ℕ) (inside : mark ≤ length j) (octets : Bytes (back j mark)) (rest : List ℕ) (ours all : List Row)
      (good : AllGood len ours) (stand : take mark j ≡ rest ++ rows_bytes ours) (read : rows_of len j mark ≡ rows all) where
    abbrev pub Older : Type 0
    Older = (os : List Row) × (all ≡ os ++ ours) × (rest ≡ rows_bytes os) × AllGood len os

    older_of : (os : List Row) × (all ≡ os ++ (ours ++ [])) × (reverse (reverse rest) ≡ rows_bytes os) × AllGood len os → Older
    older_of w = (w.0, w.1 ∙ ap (λ (l : List Row). w.0 ++ l) (append-nil ours), sym (reverse-reverse rest) ∙ w.2, w.3)

    pub older : Older
    unfolding rows_of
    older =
        let f = mark - length ours in
        let enough : mark ≡ length ours + f =
        omega (arith, rows_count ours, ap length stand, length-append rest (rows_bytes ours), length-take-le mark j inside) in
        let text : back j mark ≡ reverse (rows_bytes ours) ++ reverse rest =
        back_as_reverse j mark ∙ ap reverse stand ∙ reverse-append rest (rows_bytes ours) in
        let left : read_rows (shaped_record len) f (reverse rest) (ours ++ []) ≡ rows all =
        sym (rows_read ours f len (reverse rest) [] fits good)
        ∙ ap (λ (k : ℕ). read_rows (shaped_record len) k (reverse (rows_bytes ours) ++ reverse rest) []) (sym enough)
        ∙ ap (λ (s : List ℕ). read_rows (shaped_record len) mark s []) (sym text)
        ∙ read in
        let octets-left = bytes_rest (back j mark) (reverse (rows_bytes ours)) (reverse rest) text octets in
        older_of (older_when_read (shaped_record len) row_bytes len (record_puts len) f (reverse rest) (ours ++ []) all left octets-left)

  pub rows_bytes_unique : (a b : List Row) → AllGood len a → AllGood len b → rows_bytes a ≡ rows_bytes b → a ≡ b
  rows_bytes_unique a b ga gb t =
      let whole : (l : List ℕ) → back l (length l) ≡ reverse l = λ l. back_as_reverse l (length l) ∙ ap reverse (take-length l) in
      let ra = rows_of_bytes len (rows_bytes a) a fits ga (whole (rows_bytes a)) in
      let rb = rows_of_bytes len (rows_bytes b) b fits gb (whole (rows_bytes b)) in
      let both : rows a ≡ rows b = sym ra ∙ ap (λ (l : List ℕ). rows_of len l (length l)) t ∙ rb in
      cc

-- ---- what is left over, with more records dropped from it
pub left_over_drop : (x : Machine) → length x.memory ≤ 2 ^ 32 → x.mark ≤ length x.journal → Bytes (back x.journal x.mark)
    → (rest : List ℕ) → LeftOver x rest → (os : List Row) → AllGood (length x.memory) os → rest ≡ rows_bytes os → (k : ℕ)
    → LeftOver x (rows_bytes (drop k os))
left_over_drop x fits inside octets rest (all_of_it e) os g same k =
    let len = length x.memory in
    let text : take x.mark x.journal ≡ rows_bytes os = sym e ∙ same in
    let size : x.mark ≡ length (rows_bytes os) = sym (length-take-le x.mark x.journal inside) ∙ ap length text in
    let read : rows_of len x.journal x.mark ≡ rows os =
    ap (rows_of len x.journal) size
    ∙ rows_of_bytes len x.journal os fits g (ap (back x.journal) (sym size) ∙ back_as_reverse x.journal x.mark ∙ ap reverse text) in
    but_the_oldest os k read refl
left_over_drop x fits inside octets rest (but_the_oldest olds i e q) os g same k =
    let len = length x.memory in
    let w = bytes_of_rows len x.journal x.mark olds e octets in
    let alike : os ≡ drop i olds = rows_bytes_unique len fits os (drop i olds) g (good_drop len i olds w.1) (sym same ∙ q) in
    but_the_oldest olds (i + k) e (ap (λ (l : List Row). rows_bytes (drop k l)) alike ∙ ap rows_bytes (drop-drop k i olds))

-- ---- room by which no record goes leaves the mark
pub mark_when_none_dropped : (len : ℕ) (j : List ℕ) (mark : ℕ) → mark ≤ length j → Bytes (back j mark)
    → (make_room len j mark).a.dropped ≡ 0 → (make_room len j mark).a.mark ≡ mark
mark_when_none_dropped len j mark inside octets none_gone = go (made_cases len j mark)
  where
    go : Made len j mark → (make_room len j mark).a.mark ≡ mark
    go (there q e) = ap (λ (c : RoomCall). c.a.mark) e
    go (refused q r e) = ap (λ (c : RoomCall). c.a.mark) e
    go (on_the_way q r t e) = ap (λ (c : RoomCall). c.a.mark) e
    go (dropping q r rs t e) =
        let is = (bytes_of_rows len j mark rs t octets).0 in
        let none_dropped : dropped (missing j mark) 0 rs ≡ 0 = sym (ap (λ (c : RoomCall). c.a.dropped) e) ∙ none_gone in
        ap (λ (c : RoomCall). c.a.mark) e ∙ ap (λ (k : ℕ). length (rows_bytes (drop k rs))) none_dropped
        ∙ ap length (sym is) ∙ length-take-le mark j inside
