-- HeldLaws.antt - room made in a run: what each way to it owes.
-- * near_done: by the first start that is not below what is missing.   * walked_done: by the way back.   * held_done: posts go on after either.
-- Speaks of: DropIs and HeldIs of specs/Held.antt, make_room of oldest.
-- Assumes nothing.  Source: [K5], [ours].
use Prim.Native.Nat.{ℕ, zero, suc, ◌+◌, ◌-◌, ◌^◌, ◌≤◌, ◌<◌}
use mathlib.Core.Path.{◌≡◌, refl, sym, ap, ◌∙◌, subst}
use mathlib.Core.Bool.{Bool, true, false}
use mathlib.Core.List.{List, [], ◌∷◌, ◌++◌}
use native.Mathlib.Nat.{zero-add}
use native.Mathlib.Omega.{arith}
use lib.ListN.{length, get_or, take, drop, length-append, length-drop, take-append-drop}
use lib.Seq.{slice, take-add, drop-drop, drop_at}
use lib.Dec.{ltb}
use borrow.Author.Tests.{lt-leb, le-ltb, ltb-true, ltb-false}
use Rattle.numbers.specs.Number.{written}
use Rattle.numbers.proofs.WrittenLaws.{take_written}
use Rattle.record.specs.Limits.{longest_record}
use Rattle.undo.proofs.ShapeLaws.{record_not_empty}
use Rattle.turned.specs.Turned.{turned}
use Rattle.std.proofs.lemmas.Slice.{between_is}
use Rattle.turned.proofs.TurnLaws.{turned_none, length_turned}
use Rattle.oldest.specs.Room.{Row, row_bytes, rows_bytes, rows, rows_of, dropped, RoomCall, without, missing, make_room, RoomIs}
use Rattle.oldest.specs.declared.Room.{Room}
use Rattle.oldest.proofs.RowLaws.{rows_bytes_append, good_drop}
use Rattle.oldest.proofs.RoomLaws.{rows_split, room_rows}
use Rattle.starts.specs.Starts.{starts_of, IsStart, Indexed, PostsOk, FirstIs}
use Rattle.held.specs.Held.{CutOff, DropIs, HeldIs}
use Rattle.held.specs.declared.Held.{Held}
use Rattle.starts.proofs.StartLaws.{entry_is, drop_starts, dropped_by_starts}
use Rattle.starts.proofs.PostLaws.{indexed_none}

-- ---- a start that is not dropped
-- no record is empty, so starts ascend
pub starts_ascend : (rs : List Row) (q d : ℕ) → q < d → q < length rs → length (rows_bytes (take q rs)) < length (rows_bytes (take d rs))
starts_ascend [] q d l h = absurd (omega arith)
starts_ascend (r ∷ rs) q zero l h = absurd (omega arith)
starts_ascend (r ∷ rs) zero (suc d) l h = omega (arith, record_not_empty r.slots r.bytes, length-append (row_bytes r) (rows_bytes (take d rs)))
starts_ascend (r ∷ rs) (suc q) (suc d) l h =
    omega (arith, starts_ascend rs q d (omega arith) (omega arith), length-append (row_bytes r) (rows_bytes (take q rs)), length-append (row_bytes r) (rows_bytes (take d rs)))

pub start_after_drop : (at at' : ℕ) (rs : List Row) (d x : ℕ) → at' ≡ at + length (rows_bytes (take d rs)) → at' ≤ x → IsStart at rs x → IsStart at' (drop d rs) x
start_after_drop at at' rs d x e low o = go (ltb o.0 d) refl
  where
    go : (t : Bool) → ltb o.0 d ≡ t → IsStart at' (drop d rs) x
    go true q = absurd (omega (arith, starts_ascend rs o.0 d (ltb-true o.0 d q) o.1, o.2))
    go false q =
        let high = ltb-false o.0 d q in
        let place : d + (o.0 - d) ≡ o.0 = omega arith in
        let text : rows_bytes (take o.0 rs) ≡ rows_bytes (take d rs) ++ rows_bytes (take (o.0 - d) (drop d rs)) =
        ap (λ (m : ℕ). rows_bytes (take m rs)) (sym place) ∙ ap rows_bytes (take-add d (o.0 - d) rs) ∙ rows_bytes_append (take d rs) (take (o.0 - d) (drop d rs)) in
        (o.0 - d, omega (arith, length-drop d rs, o.1), omega (arith, o.2, ap length text, length-append (rows_bytes (take d rs)) (rows_bytes (take (o.0 - d) (drop d rs)))))

-- ---- a turned journal whose records are known, where room is short
module _ (len b h : ℕ) (p : List ℕ) (mark : ℕ) (low : b ≤ h) (top : h ≤ length p) (inside : mark ≤ length p) (short : length p - mark < longest_record) (long : longest_record ≤ length p) (fits : len ≤ 2 ^ 32) where
  abbrev v : List ℕ
  v = turned b h p

  size : length v ≡ length p
  size = length_turned b h p low top

  module _ (index : List ℕ) (i n base : ℕ) (x : Indexed len v mark index i n base) where
    abbrev all : List Row
    all = x.all

    abbrev k : ℕ
    k = dropped (missing v mark) 0 all

    abbrev rest : List ℕ
    rest = rows_bytes (drop k all)

    made : make_room len v mark ≡ without k all v
    unfolding make_room
    made = rw (lt-leb longest_record (length v - mark) (omega (arith, size)), le-ltb (length v) longest_record (omega (arith, size)), x.read)

    split : length (rows_bytes (take k all)) + length rest ≡ mark
    split = rows_split v mark (omega (arith, size)) all x.bytes k

    rows_then : rows_of len (written v 0 rest) (length rest) ≡ rows (drop k all)
    rows_then = room_rows v mark (omega (arith, size)) all x.bytes len k fits x.good

    bytes_then : take (length rest) (written v 0 rest) ≡ rest
    bytes_then = ap (λ (m : ℕ). take m (written v 0 rest)) (sym (zero-add (length rest))) ∙ take_written v 0 rest (omega (arith, split, size))

    -- by the way back
    module _ (p' : List ℕ) (a : Room) (r : RoomIs len v mark p' a) where
      mark_is : a.mark ≡ length rest
      mark_is = ap (λ (y : Room). y.mark) (r.answer ∙ ap (λ (c : RoomCall). c.a) made)

      dropped_is : a.dropped ≡ k
      dropped_is = ap (λ (y : Room). y.dropped) (r.answer ∙ ap (λ (c : RoomCall). c.a) made)

      pub walked_low : a.mark ≤ mark
      walked_low = omega (arith, mark_is, split)

      journal_is : turned 0 h p' ≡ written v 0 rest
      journal_is = turned_none h p' ∙ r.journal ∙ ap (λ (c : RoomCall). c.j) made

      pub walked_done : (near : List ℕ) → DropIs len v mark h base p' near (record { mark = a.mark; dropped = a.dropped; b = 0; i = length near; base = base + (mark - a.mark) })
      walked_done near =
          record {
            journal = turned_none h p' ∙ r.journal;
            answer = ap (λ (c : RoomCall). c.a) made ∙ rw (mark_is, dropped_is);
            inside = walked_low;
            turn = record { low = omega arith; plain = λ l. refl };
            sum = omega (arith, walked_low);
            order = omega arith;
            index = rw (journal_is, mark_is) (indexed_none len (written v 0 rest) (length rest) near (length near) (base + (mark - length rest)) (drop k all) rows_then bytes_then (good_drop len k all x.good));
          }

    -- posts go on
    pub held_done : (p' posts near : List ℕ) (r : Held) → DropIs len v mark h base p' near r → PostsOk len v mark base posts → HeldIs len v mark h base p' posts near r
    held_done p' posts near r d o =
        let mark_is : r.mark ≡ length rest = ap (λ (y : Room). y.mark) (sym d.answer ∙ ap (λ (c : RoomCall). c.a) made) in
        let journal_is : turned r.b h p' ≡ written v 0 rest = d.journal ∙ ap (λ (c : RoomCall). c.j) made in
        let base_is : r.base ≡ base + length (rows_bytes (take k all)) = omega (arith, d.sum, split) in
        let now_rows : rows_of len (turned r.b h p') r.mark ≡ rows (drop k all) = rw (journal_is, mark_is) rows_then in
        record {
          journal = d.journal;
          answer = d.answer;
          inside = d.inside;
          turn = d.turn;
          sum = d.sum;
          known =
              record {
                order = d.order;
                index = d.index;
                posts_ok =
                    record {
                      start = λ rs e m l lo hi.
                          let both : rows (drop k all) ≡ rows rs = sym now_rows ∙ e in
                          let same : drop k all ≡ rs = cc in
                          subst (λ (l : List Row). IsStart r.base l (get_or posts m 0)) same
                          (start_after_drop base r.base all k (get_or posts m 0) base_is lo (o.start all x.read m l (omega (arith, base_is)) hi));
                    };
              };
        }

  -- by the list
  module _ (need : ℕ) (lacks : need ≡ missing p mark) (near : List ℕ) (i base : ℕ) (order : i ≤ length near) (x : Indexed len v mark near i (length near) base) (at : ℕ) (f : FirstIs near i (length near) base need at) (more : at < length near) where
    abbrev d : ℕ
    d = at - i

    abbrev cut : ℕ
    cut = get_or near at 0 - base

    entry : (q : ℕ) → i ≤ q → q < length near → get_or near q 0 ≡ base + length (rows_bytes (take (q - i) x.all))
    entry q l m =
        let e : i + (q - i) ≡ q = omega arith in
        ap (λ (m : ℕ). get_or near m 0) (sym e) ∙ entry_is len v mark near i (length near) base order (omega arith) x (q - i) (omega arith)

    pub near_low : base ≤ get_or near at 0
    near_low = omega (arith, entry at f.low more)

    cut_is : cut ≡ length (rows_bytes (take d x.all))
    cut_is = omega (arith, entry at f.low more)

    count_is : dropped (missing v mark) 0 x.all ≡ d
    count_is =
        let same : missing v mark ≡ need = ap (λ (m : ℕ). longest_record - (m - mark)) size ∙ sym lacks in
        ap (λ (m : ℕ). dropped m 0 x.all) same
        ∙ dropped_by_starts need 0 x.all d (omega (arith, x.few, f.low))
        (λ q l.
        let e : i + q - i ≡ q = omega arith in
        let z : get_or near (i + q) 0 ≡ base + length (rows_bytes (take q x.all)) = entry (i + q) (omega arith) (omega (arith, f.low)) ∙ ap (λ (m : ℕ). base + length (rows_bytes (take m x.all))) e in
        omega (arith, f.before (i + q) (omega arith) (omega (arith, f.low))))
        (omega (arith, f.here more, cut_is))

    abbrev kept : List ℕ
    kept = rows_bytes (drop d x.all)

    room : make_room len v mark ≡ without d x.all v
    room = made near i (length near) base x ∙ ap (λ (m : ℕ). without m x.all v) count_is

    parts : length (rows_bytes (take d x.all)) + length kept ≡ mark
    parts = rows_split v mark (omega (arith, size)) x.all x.bytes d

    pub near_cut : cut ≤ mark
    near_cut = omega (arith, cut_is, parts)

    part : slice cut mark v ≡ kept
    part =
        ap (λ (m : ℕ). drop m (take mark v)) cut_is
        ∙ ap (drop (length (rows_bytes (take d x.all)))) (x.bytes ∙ ap rows_bytes (sym (take-append-drop d x.all)) ∙ rows_bytes_append (take d x.all) (drop d x.all))
        ∙ drop_at (rows_bytes (take d x.all)) kept (length (rows_bytes (take d x.all))) refl

    -- the list goes on: no record is read again
    indexed_after_drop : Indexed len (written v 0 kept) (length kept) near at (length near) (get_or near at 0)
    indexed_after_drop =
        let n = length near in
        let place : i + d ≡ at = omega (arith, f.low) in
        let sum : get_or near at 0 ≡ base + length (rows_bytes (take d x.all)) = entry at f.low more in
        let less : n - i - d ≡ n - at = omega (arith, f.low) in
        record {
          all = drop d x.all;
          read = room_rows v mark (omega (arith, size)) x.all x.bytes len d fits x.good;
          bytes = ap (λ (m : ℕ). take m (written v 0 kept)) (sym (zero-add (length kept))) ∙ take_written v 0 kept (omega (arith, parts, size));
          good = good_drop len d x.all x.good;
          few = omega (arith, length-drop d x.all, x.few, f.low);
          known =
              ap (λ (m : ℕ). drop m (take n near)) (sym place)
              ∙ sym (drop-drop d i (take n near))
              ∙ ap (drop d) x.known
              ∙ sym (between_is (starts_of base x.all) d (n - i))
              ∙ ap (take (n - i - d)) (drop_starts base x.all d ∙ ap (λ (m : ℕ). starts_of m (drop d x.all)) (sym sum))
              ∙ ap (λ (m : ℕ). take m (starts_of (get_or near at 0) (drop d x.all))) less;
        }

    pub near_done : (p' : List ℕ) (b' : ℕ) → CutOff v cut mark h p' b' → DropIs len v mark h base p' near (record { mark = mark - cut; dropped = at - i; b = b'; i = at; base = get_or near at 0 })
    near_done p' b' c =
        let left : mark - cut ≡ length kept = omega (arith, parts, cut_is) in
        let is : turned b' h p' ≡ written v 0 kept = c.journal ∙ ap (written v 0) part in
        record {
          journal = is ∙ sym (ap (λ (c : RoomCall). c.j) room);
          answer = ap (λ (c : RoomCall). c.a) room ∙ rw left;
          inside = omega arith;
          turn = c.turn;
          sum = omega (arith, near_low, near_cut);
          order = omega arith;
          index = rw (is, left) indexed_after_drop;
        }

-- ---- by what the calls answered
pub room_of_turned : (len b h mark : ℕ) (p l p' : List ℕ) (a : Room) → l ≡ turned b h p → RoomIs len l mark p' a → RoomIs len (turned b h p) mark p' a
room_of_turned len b h mark p l p' a e r = subst (λ (j : List ℕ). RoomIs len j mark p' a) e r
