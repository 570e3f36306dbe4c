-- OctetLaws.antt - bytes stay bytes: those of a record, and those of a journal that records are written to or dropped from.
-- * bytes_of_good: the bytes of a well-shaped record.   * bytes_of_written: a journal with bytes written into it.   * bytes_of_room.
-- Speaks of: record_of of record, make_room of specs/Room.antt.  Source: [01 The journal], [K5].
use Rattle.std.proofs.Common.{◌≡◌, ℕ, zero, suc, ◌+◌, ◌/◌, ◌%◌, ◌^◌, ◌<◌, ◌≤◌, Bool, true, false, ltb, List, [], ◌∷◌, ◌++◌, length, get_or, take, drop, sym, refl, subst, arith, ltb-true}
use Rattle.numbers.specs.Number.{groups, top, number_bytes, back, written}
use Rattle.numbers.proofs.NumberLaws.{Bytes}
use Rattle.record.specs.Limits.{slot_limit, Each, ValidBytes}
use Rattle.record.specs.Change.{Change, Ascending, changes_bytes, record_of}
use Rattle.record.proofs.DiffLaws.{Small}
use Rattle.oldest.specs.Room.{Row, row_bytes, rows_bytes, dropped, missing, RoomCall, make_room}
use Rattle.oldest.proofs.WayLaws.{octets_back}
use Rattle.oldest.proofs.RowLaws.{Good, AllGood, bytes_of_rows, good_drop}
use Rattle.oldest.proofs.RoomLaws.{Made, there, refused, on_the_way, dropping, made_cases}

-- ---- lists of bytes
pub bytes_append : (a b : List ℕ) → Bytes a → Bytes b → Bytes (a ++ b)
bytes_append [] b h k = k
bytes_append (x ∷ a) b h k = (h.0, bytes_append a b h.1 k)

bytes_take : (n : ℕ) (a : List ℕ) → Bytes a → Bytes (take n a)
bytes_take zero a h = tt
bytes_take (suc n) [] h = tt
bytes_take (suc n) (x ∷ a) h = (h.0, bytes_take n a h.1)

bytes_drop : (n : ℕ) (a : List ℕ) → Bytes a → Bytes (drop n a)
bytes_drop zero a h = h
bytes_drop (suc n) [] h = tt
bytes_drop (suc n) (x ∷ a) h = bytes_drop n a h.1

pub bytes_of_written : (l : List ℕ) (at : ℕ) (b : List ℕ) → Bytes l → Bytes b → Bytes (written l at b)
bytes_of_written l at b h k = bytes_append (take at l ++ b) (drop (at + length b) l) (bytes_append (take at l) b (bytes_take at l h) k) (bytes_drop (at + length b) l h)

byte_at : (l : List ℕ) → Bytes l → (k : ℕ) → get_or l k 0 < 256
byte_at [] h zero = omega arith
byte_at [] h (suc k) = omega arith
byte_at (x ∷ l) h zero = h.0
byte_at (x ∷ l) h (suc k) = byte_at l h.1 k

pub bytes_of_back : (l : List ℕ) (e : ℕ) → Bytes l → e ≤ length l → Bytes (back l e)
bytes_of_back l e h low = octets_back l (byte_at l h) e low

each_byte : (i : ℕ) (l : List ℕ) → Each (λ k v. v < 256) i l → Bytes l
each_byte i [] h = tt
each_byte i (x ∷ l) h = (h.0, each_byte (suc i) l h.1)

pub bytes_when_valid : (l : List ℕ) → ValidBytes l → Bytes l
bytes_when_valid l h = each_byte 0 l h

-- ---- the bytes of a record
bytes_of_groups : (k v : ℕ) → v < top k → Bytes (groups k v)
bytes_of_groups zero v h = (omega arith, tt)
bytes_of_groups (suc k) v h = go (ltb v 128) refl (bytes_of_groups k (v / 128))
  where
    go : (b : Bool) → ltb v 128 ≡ b → (v / 128 < top k → Bytes (groups k (v / 128))) → Bytes (groups (suc k) v)
    go true e ih = let low = ltb-true v 128 e in rw e (omega arith, tt)
    go false e ih = rw e (bytes_append (groups k (v / 128)) ((v % 128 + 128) ∷ []) (ih (omega arith)) (omega arith, tt))

bytes_of_number : (v : ℕ) → v < 2 ^ 32 → Bytes (number_bytes v)
unfolding number_bytes
bytes_of_number v h = bytes_of_groups 4 v h

bytes_of_changes : (lo hi : ℕ) (cs : List Change) → hi ≤ 2 ^ 32 → Ascending lo hi cs → Small cs → Bytes (changes_bytes cs)
bytes_of_changes lo hi [] h a s = tt
bytes_of_changes lo hi (c ∷ cs) h a s =
    bytes_append (number_bytes c.place ++ number_bytes c.old) (changes_bytes cs)
    (bytes_append (number_bytes c.place) (number_bytes c.old) (bytes_of_number c.place (let q = a.1 in omega arith)) (bytes_of_number c.old s.0))
    (bytes_of_changes (suc c.place) hi cs h a.2 s.1)

pub bytes_of_good : (len : ℕ) (r : Row) → len ≤ 2 ^ 32 → Good len r → Bytes (row_bytes r)
unfolding record_of
bytes_of_good len r h g =
    let ss = changes_bytes r.slots in
    let bs = changes_bytes r.bytes in
    let ns = number_bytes (length r.slots) in
    let nb = number_bytes (length r.bytes) in
    bytes_append (ss ++ bs ++ ns) nb
    (bytes_append (ss ++ bs) ns
    (bytes_append ss bs (bytes_of_changes 0 slot_limit r.slots (omega arith) g.slots_ascend g.slots_small) (bytes_of_changes 0 len r.bytes h g.bytes_ascend g.bytes_small))
    (bytes_of_number (length r.slots) (let q = g.few_slots in omega arith)))
    (bytes_of_number (length r.bytes) (let q = g.few_bytes in omega arith))

pub bytes_of_all_good : (len : ℕ) (rs : List Row) → len ≤ 2 ^ 32 → AllGood len rs → Bytes (rows_bytes rs)
bytes_of_all_good len [] h g = tt
bytes_of_all_good len (r ∷ rs) h g = bytes_append (row_bytes r) (rows_bytes rs) (bytes_of_good len r h g.0) (bytes_of_all_good len rs h g.1)

-- ---- the bytes of a journal in which room was made
pub bytes_of_room : (len : ℕ) (j : List ℕ) (mark : ℕ) → len ≤ 2 ^ 32 → mark ≤ length j → Bytes j → Bytes (make_room len j mark).j
bytes_of_room len j mark h low b = go (made_cases len j mark)
  where
    go : Made len j mark → Bytes (make_room len j mark).j
    go (there q e) = subst (λ (c : RoomCall). Bytes c.j) (sym e) b
    go (refused q r e) = subst (λ (c : RoomCall). Bytes c.j) (sym e) b
    go (on_the_way q r t e) = subst (λ (c : RoomCall). Bytes c.j) (sym e) b
    go (dropping q r rs t e) =
        let w = bytes_of_rows len j mark rs t (bytes_of_back j mark b low) in
        let k = dropped (missing j mark) 0 rs in
        subst (λ (c : RoomCall). Bytes c.j) (sym e) (bytes_of_written j 0 (rows_bytes (drop k rs)) b (bytes_of_all_good len (drop k rs) h (good_drop len k rs w.1)))
