-- RoomLaws.antt - what make_room means: the fewest oldest records go, the rest stands from place 0, and then there is room.
-- Speaks of: dropped, make_room and RoomIs of specs/Room.antt. The four answers exclude each other (Made).
-- Assumes nothing.  Source: [K5].
use Rattle.std.proofs.Common.{◌≡◌, ℕ, zero, suc, ◌+◌, ◌-◌, ◌*◌, ◌^◌, ◌<◌, ◌≤◌, Bool, true, false, ltb, leb, ◌⊎◌, List, [], ◌∷◌, ◌++◌, length, take, drop, sym, refl, ap, ◌∙◌, inl, inr, arith, length-append, take-append-drop, length-take-le, drop_at, ltb-false, ltb-true, le-ltb, lt-ltb, le-leb, leb-false, leb-true}
use lib.Seq.{slice, length-slice}
use borrow.Author.Tests.{lt-leb}
use Rattle.numbers.specs.Number.{back, written}
use Rattle.numbers.proofs.NumberLaws.{Bytes}
use Rattle.numbers.proofs.WrittenLaws.{length_written, drop_written}
use Rattle.record.specs.Limits.{longest_record}
use Rattle.oldest.specs.Room.{Row, row_bytes, rows_bytes, Way, rows, torn, rows_of, dropped, CutIs, RoomIs}
use Rattle.oldest.specs.Room.{RoomCall, as_it_was, without, missing, with_rows, make_room}
use Rattle.oldest.specs.declared.Cut.{Cut}
use Rattle.std.specs.Prelude.{Option, Some, None}
use Rattle.oldest.proofs.RowLaws.{AllGood, rows_bytes_append, rows_weight, good_drop, bytes_of_rows, rows_after_room}

-- ---- the fewest: so many records make need bytes free, and no smaller number of the oldest does
pub dropped_enough : (need at : ℕ) (rs : List Row) → need ≤ at + length (rows_bytes rs)
    → need ≤ at + length (rows_bytes (take (dropped need at rs) rs))
dropped_enough need at [] h = h
dropped_enough need at (r ∷ rs) h =
    go (ltb at need) refl (dropped_enough need (at + length (row_bytes r)) rs (omega (arith, length-append (row_bytes r) (rows_bytes rs))))
  where
    go : (t : Bool) → ltb at need ≡ t → need ≤ at + length (row_bytes r) + length (rows_bytes (take (dropped need (at + length (row_bytes r)) rs) rs))
        → need ≤ at + length (rows_bytes (take (dropped need at (r ∷ rs)) (r ∷ rs)))
    go true q ih = rw q (omega (arith, length-append (row_bytes r) (rows_bytes (take (dropped need (at + length (row_bytes r)) rs) rs))))
    go false q ih = let enough = ltb-false at need q in omega arith

pub dropped_fewest : (need at : ℕ) (rs : List Row) (i : ℕ) → i < dropped need at rs → at + length (rows_bytes (take i rs)) < need
dropped_fewest need at [] i h = absurd (omega arith)
dropped_fewest need at (r ∷ rs) i h = go (ltb at need) refl i h (λ k. dropped_fewest need (at + length (row_bytes r)) rs k)
  where
    go : (t : Bool) → ltb at need ≡ t → (i : ℕ) → i < dropped need at (r ∷ rs)
        → ((k : ℕ) → k < dropped need (at + length (row_bytes r)) rs → at + length (row_bytes r) + length (rows_bytes (take k rs)) < need)
        → at + length (rows_bytes (take i (r ∷ rs))) < need
    go true q zero h ih = let low = ltb-true at need q in omega arith
    go true q (suc i) h ih =
        let less : suc i < suc (dropped need (at + length (row_bytes r)) rs) = rw q at h in
        omega (arith, ih i (omega arith), length-append (row_bytes r) (rows_bytes (take i rs)))
    go false q i h ih = absurd (let none-go : i < 0 = rw q at h in omega arith)

pub dropped_most : (need at : ℕ) (rs : List Row) → dropped need at rs ≤ length rs
dropped_most need at [] = omega arith
dropped_most need at (r ∷ rs) = go (ltb at need) refl (dropped_most need (at + length (row_bytes r)) rs)
  where
    go : (t : Bool) → ltb at need ≡ t → dropped need (at + length (row_bytes r)) rs ≤ length rs → dropped need at (r ∷ rs) ≤ length (r ∷ rs)
    go true q ih = rw q (omega arith)
    go false q ih = rw q (omega arith)

-- ---- the four answers
module _ (len : ℕ) (j : List ℕ) (mark : ℕ) where
  pub room_when_there : longest_record ≤ length j - mark → make_room len j mark ≡ as_it_was 0 j mark
  unfolding make_room
  room_when_there h = rw (le-leb longest_record (length j - mark) h)

  pub room_when_small : length j < longest_record → make_room len j mark ≡ as_it_was 5 j mark
  unfolding make_room
  room_when_small h = rw (lt-leb longest_record (length j - mark) (omega arith), lt-ltb (length j) longest_record h)

  module _ (short : length j - mark < longest_record) (long : longest_record ≤ length j) where
    by_way : make_room len j mark ≡ with_rows j mark (rows_of len j mark)
    unfolding make_room
    by_way = rw (lt-leb longest_record (length j - mark) short, le-ltb (length j) longest_record long)

    pub room_when_torn : rows_of len j mark ≡ torn → make_room len j mark ≡ as_it_was 8 j mark
    room_when_torn e = by_way ∙ ap (with_rows j mark) e

    pub room_when_rows : (rs : List Row) → rows_of len j mark ≡ rows rs → make_room len j mark ≡ without (dropped (missing j mark) 0 rs) rs j
    room_when_rows rs e = by_way ∙ ap (with_rows j mark) e

pub data Made (len : ℕ) (j : List ℕ) (mark : ℕ) : Type 0 where
  there : longest_record ≤ length j - mark → make_room len j mark ≡ as_it_was 0 j mark → Made len j mark
  refused : length j - mark < longest_record → length j < longest_record → make_room len j mark ≡ as_it_was 5 j mark → Made len j mark
  on_the_way : length j - mark < longest_record → longest_record ≤ length j → rows_of len j mark ≡ torn
      → make_room len j mark ≡ as_it_was 8 j mark → Made len j mark
  dropping : length j - mark < longest_record → longest_record ≤ length j → (rs : List Row) → rows_of len j mark ≡ rows rs
      → make_room len j mark ≡ without (dropped (missing j mark) 0 rs) rs j → Made len j mark

pub made_cases : (len : ℕ) (j : List ℕ) (mark : ℕ) → Made len j mark
made_cases len j mark = go (leb longest_record (length j - mark)) refl (ltb (length j) longest_record) refl (rows_of len j mark) refl
  where
    go : (t : Bool) → leb longest_record (length j - mark) ≡ t → (u : Bool) → ltb (length j) longest_record ≡ u
        → (w : Way) → rows_of len j mark ≡ w → Made len j mark
    go true q u r w e = let h = leb-true longest_record (length j - mark) q in there h (room_when_there len j mark h)
    go false q true r w e =
        let h = ltb-true (length j) longest_record r in
        refused (leb-false longest_record (length j - mark) q) h (room_when_small len j mark h)
    go false q false r torn e =
        let short = leb-false longest_record (length j - mark) q in
        let long = ltb-false (length j) longest_record r in
        on_the_way short long e (room_when_torn len j mark short long e)
    go false q false r (rows rs) e =
        let short = leb-false longest_record (length j - mark) q in
        let long = ltb-false (length j) longest_record r in
        dropping short long rs e (room_when_rows len j mark short long rs e)

-- ---- the number: 0, 5 or 8, and which
module _ (len : ℕ) (j : List ℕ) (mark : ℕ) where
  abbrev number : ℕ
  number = (make_room len j mark).a.number

  number_is : (c : RoomCall) → make_room len j mark ≡ c → number ≡ c.a.number
  number_is c e = ap (λ (c : RoomCall). c.a.number) e

  pub room_number : (number ≡ 0) ⊎ ((number ≡ 5) ⊎ (number ≡ 8))
  room_number = go (made_cases len j mark)
    where
      go : Made len j mark → (number ≡ 0) ⊎ ((number ≡ 5) ⊎ (number ≡ 8))
      go (there h e) = inl (number_is _ e)
      go (refused s h e) = inr (inl (number_is _ e))
      go (on_the_way s l t e) = inr (inr (number_is _ e))
      go (dropping s l rs t e) = inl (number_is _ e)

  pub room_number_0 : number ≡ 0 → longest_record ≤ length j
  room_number_0 n = go (made_cases len j mark)
    where
      go : Made len j mark → longest_record ≤ length j
      go (there h e) = omega arith
      go (refused s h e) = absurd (omega (arith, n, number_is _ e))
      go (on_the_way s l t e) = l
      go (dropping s l rs t e) = l

  pub room_number_5 : number ≡ 5 → length j < longest_record
  room_number_5 n = go (made_cases len j mark)
    where
      go : Made len j mark → length j < longest_record
      go (there h e) = absurd (omega (arith, n, number_is _ e))
      go (refused s h e) = h
      go (on_the_way s l t e) = absurd (omega (arith, n, number_is _ e))
      go (dropping s l rs t e) = absurd (omega (arith, n, number_is _ e))

  pub room_number_8 : number ≡ 8 → (length j - mark < longest_record) × (longest_record ≤ length j) × (rows_of len j mark ≡ torn)
  room_number_8 n = go (made_cases len j mark)
    where
      go : Made len j mark → (length j - mark < longest_record) × (longest_record ≤ length j) × (rows_of len j mark ≡ torn)
      go (there h e) = absurd (omega (arith, n, number_is _ e))
      go (refused s h e) = absurd (omega (arith, n, number_is _ e))
      go (on_the_way s l t e) = (s, l, t)
      go (dropping s l rs t e) = absurd (omega (arith, n, number_is _ e))

-- ---- records dropped (bytes_of_rows: what reads as records rs is their bytes)
module _ (j : List ℕ) (mark : ℕ) (inside : mark ≤ length j) (rs : List Row) (is : take mark j ≡ rows_bytes rs) where
  rows_parts : (k : ℕ) → take mark j ≡ rows_bytes (take k rs) ++ rows_bytes (drop k rs)
  rows_parts k = is ∙ ap rows_bytes (sym (take-append-drop k rs)) ∙ rows_bytes_append (take k rs) (drop k rs)

  pub rows_split : (k : ℕ) → length (rows_bytes (take k rs)) + length (rows_bytes (drop k rs)) ≡ mark
  rows_split k =
      omega (arith, ap length (rows_parts k), length-append (rows_bytes (take k rs)) (rows_bytes (drop k rs)), length-take-le mark j inside)

  pub rows_room : (k : ℕ) → length (rows_bytes (drop k rs)) ≤ length j
  rows_room k = omega (arith, rows_split k)

  -- those kept are a part of the journal
  pub rows_kept : (k : ℕ) → rows_bytes (drop k rs) ≡ slice (length (rows_bytes (take k rs))) mark j
  rows_kept k =
      let gone = rows_bytes (take k rs) in
      sym (ap (drop (length gone)) (rows_parts k) ∙ drop_at gone (rows_bytes (drop k rs)) (length gone) refl)

  module _ (short : length j - mark < longest_record) (long : longest_record ≤ length j) where
    pub room_enough : longest_record ≤ length j - length (rows_bytes (drop (dropped (missing j mark) 0 rs) rs))
    room_enough =
        let k = dropped (missing j mark) 0 rs in
        let all : length (rows_bytes rs) ≡ mark = omega (arith, ap length is, length-take-le mark j inside) in
        omega (arith, rows_split k, dropped_enough (missing j mark) 0 rs (omega arith))

    pub room_fewest : (i : ℕ) → i < dropped (missing j mark) 0 rs → length j - length (rows_bytes (drop i rs)) < longest_record
    room_fewest i h = omega (arith, rows_split i, dropped_fewest (missing j mark) 0 rs i h)

  -- no other byte, and the length stays
  pub room_elsewhere : (k : ℕ)
      → drop (length (rows_bytes (drop k rs))) (written j 0 (rows_bytes (drop k rs))) ≡ drop (length (rows_bytes (drop k rs))) j
  room_elsewhere k =
      let b = rows_bytes (drop k rs) in
      let at : 0 + length b + 0 ≡ length b = omega arith in
      ap (λ (n : ℕ). drop n (written j 0 b)) (sym at) ∙ drop_written j 0 b (omega (arith, rows_room k)) 0 ∙ ap (λ (n : ℕ). drop n j) at

  pub room_length : (k : ℕ) → length (written j 0 (rows_bytes (drop k rs))) ≡ length j
  room_length k = length_written j 0 (rows_bytes (drop k rs)) (omega (arith, rows_room k))

  pub room_rows : (len k : ℕ) → len ≤ 2 ^ 32 → AllGood len rs
      → rows_of len (written j 0 (rows_bytes (drop k rs))) (length (rows_bytes (drop k rs))) ≡ rows (drop k rs)
  room_rows len k fits good = rows_after_room len j (drop k rs) fits (good_drop len k rs good) (rows_room k)

-- ---- what a caller may know of any answer
module _ (len : ℕ) (j : List ℕ) (mark : ℕ) (inside : mark ≤ length j) (octets : Bytes (back j mark)) where
  below_mark : (rs : List Row) → rows_of len j mark ≡ rows rs → take mark j ≡ rows_bytes rs
  below_mark rs t = (bytes_of_rows len j mark rs t octets).0

  pub room_same_length : length (make_room len j mark).j ≡ length j
  room_same_length = go (made_cases len j mark)
    where
      size : (c : RoomCall) → make_room len j mark ≡ c → length (make_room len j mark).j ≡ length c.j
      size c e = ap (λ (c : RoomCall). length c.j) e

      go : Made len j mark → length (make_room len j mark).j ≡ length j
      go (there h e) = size _ e
      go (refused s h e) = size _ e
      go (on_the_way s l t e) = size _ e
      go (dropping s l rs t e) = size _ e ∙ room_length j mark inside rs (below_mark rs t) (dropped (missing j mark) 0 rs)

  mark_is : (c : RoomCall) → make_room len j mark ≡ c → (make_room len j mark).a.mark ≡ c.a.mark
  mark_is c e = ap (λ (c : RoomCall). c.a.mark) e

  pub room_inside : (make_room len j mark).a.number ≡ 0 → (make_room len j mark).a.mark + longest_record ≤ length j
  room_inside n = go (made_cases len j mark)
    where
      go : Made len j mark → (make_room len j mark).a.mark + longest_record ≤ length j
      go (there h e) = omega (arith, mark_is _ e)
      go (refused s h e) = absurd (omega (arith, n, number_is len j mark _ e))
      go (on_the_way s l t e) = absurd (omega (arith, n, number_is len j mark _ e))
      go (dropping s l rs t e) = omega (arith, mark_is _ e, room_enough j mark inside rs (below_mark rs t) s l)

  -- each record dropped is two bytes at least
  pub room_weighs : 2 * (make_room len j mark).a.dropped + (make_room len j mark).a.mark ≤ mark
  room_weighs = go (made_cases len j mark)
    where
      gone : (c : RoomCall) → make_room len j mark ≡ c → (make_room len j mark).a.dropped ≡ c.a.dropped
      gone c e = ap (λ (c : RoomCall). c.a.dropped) e

      go : Made len j mark → 2 * (make_room len j mark).a.dropped + (make_room len j mark).a.mark ≤ mark
      go (there h e) = omega (arith, mark_is _ e, gone _ e)
      go (refused s h e) = omega (arith, mark_is _ e, gone _ e)
      go (on_the_way s l t e) = omega (arith, mark_is _ e, gone _ e)
      go (dropping s l rs t e) =
          let k = dropped (missing j mark) 0 rs in
          let few = length-take-le k rs (dropped_most (missing j mark) 0 rs) in
          omega (arith, mark_is _ e, gone _ e, rows_split j mark inside rs (below_mark rs t) k, rows_weight (take k rs), few)

-- ---- make_room, by what was found
module _ (len : ℕ) (j : List ℕ) (mark : ℕ) where
  pub room_is : (c : RoomCall) → make_room len j mark ≡ c → RoomIs len j mark c.j c.a
  room_is c e = record { journal = sym (ap (λ (c : RoomCall). c.j) e); answer = sym (ap (λ (c : RoomCall). c.a) e) }

  module _ (short : length j - mark < longest_record) (long : longest_record ≤ length j) where
    pub room_torn : (r : Option Cut) → CutIs len j mark (missing j mark) r → r ≡ None
        → RoomIs len j mark j (record { number = 8; mark = mark; moved = 0; dropped = 0 })
    room_torn r w e = room_is (as_it_was 8 j mark) (room_when_torn len j mark short long (rw e at w))

    pub room_made : mark ≤ length j → (r : Option Cut) → CutIs len j mark (missing j mark) r → (c : Cut) → r ≡ Some c
        → RoomIs len j mark (written j 0 (slice c.from mark j)) (record { number = 0; mark = mark - c.from; moved = mark - c.from; dropped = c.dropped })
    room_made inside r w c e = from_cut (rw e at w)
      where
        from_cut : CutIs len j mark (missing j mark) (Some c)
            → RoomIs len j mark (written j 0 (slice c.from mark j)) (record { number = 0; mark = mark - c.from; moved = mark - c.from; dropped = c.dropped })
        from_cut x =
            let size : mark - c.from ≡ length (rows_bytes (drop c.dropped x.0)) = sym (length-slice c.from mark j inside) ∙ ap length x.4 in
            let is = room_is _ (room_when_rows len j mark short long x.0 x.1) in
            rw (size, x.4, x.2) is
