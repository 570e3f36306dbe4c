-- JournalLaws.antt - the journal that a step is lent, and the room that it finds or makes there, in either manner.
-- * JournalLent: what a manner asks of a journal. Dropping: that it holds bytes, for it is read. Keeping: nothing.
-- * room_length, room_inside, room_lent: where a step is not refused for room, the longest record fits at the mark that room leaves.
-- * row_after, row_after_good: a step's record as a row, which is well shaped; lent_written: a journal with it written is lent still.
-- Source: [01 The journal], [K5].
use Prim.Native.Nat.{ℕ, suc, ◌+◌, ◌-◌, ◌^◌, ◌≤◌, ◌<◌}
use mathlib.Core.Path.{◌≡◌, refl, sym, subst}
use mathlib.Core.Bool.{true, false}
use mathlib.Core.List.{List, [], ◌∷◌}
use native.Mathlib.Omega.{arith}
use lib.ListN.{length}
use borrow.Author.Tests.{ltb-false, lt-ltb}
use Rattle.numbers.specs.Number.{written}
use Rattle.numbers.proofs.NumberLaws.{Bytes}
use Rattle.record.specs.Limits.{slot_limit, longest_record, valid_value, valid_byte, Each, ValidBytes}
use Rattle.record.specs.Change.{diffs}
use Rattle.record.proofs.DiffLaws.{ascending_of_diffs, length_of_diffs, small_of_diffs, each_implies}
use Rattle.undo.proofs.UndoLaws.{valid_of_diffs}
use Rattle.oldest.specs.Room.{Row, row_bytes, RoomCall, make_room, dropped, missing}
use Rattle.oldest.proofs.RowLaws.{Good, bytes_of_rows}
use Rattle.oldest.proofs.RoomLaws.{Made, there, refused, on_the_way, dropping, made_cases, room_enough, rows_room}
use Rattle.oldest.proofs.RoomLaws as room
use Rattle.oldest.proofs.OctetLaws.{bytes_when_valid, bytes_of_back, bytes_of_good, bytes_of_written, bytes_of_room}
use Rattle.calls.specs.declared.Manner.{Manner}
use Rattle.calls.specs.declared.Manner.TheVariants.{Dropping, Keeping}
use Rattle.step.specs.Steps.{one_step}
use Rattle.calls.specs.Calls.{no_room, torn_way, room_for}
use Rattle.calls.specs.History.{Request, Seen, record_after}
use Rattle.calls.proofs.ValidLaws.{Valid, kept_by, small_enough}

abbrev pub JournalLent : Manner → List ℕ → Type 0
JournalLent Dropping j = ValidBytes j
JournalLent Keeping j = Unit {0}

valid_from : (i : ℕ) (l : List ℕ) → Bytes l → Each (λ k v. v < 256) i l
valid_from i [] h = tt
valid_from i (x ∷ l) h = (h.0, valid_from (suc i) l h.1)

pub valid_when_bytes : (l : List ℕ) → Bytes l → ValidBytes l
valid_when_bytes l h = valid_from 0 l h

-- ---- room where none is refused
record RoomHolds (w : Manner) (j : List ℕ) (c : RoomCall) : Type 0 where
  number : c.a.number ≡ 0
  same : length c.j ≡ length j
  inside : c.a.mark + longest_record ≤ length j
  lent : JournalLent w c.j

module _ (len : ℕ) (j : List ℕ) (mark : ℕ) (small : len ≤ 2 ^ 32) (inside : mark ≤ length j) where
  room_holds : (w : Manner) → JournalLent w j → no_room w j mark ≡ false → torn_way w len j mark ≡ false → RoomHolds w j (room_for w len j mark)
  room_holds Keeping lent free whole =
      record { number = refl; same = refl; inside = (let h = ltb-false (length j - mark) longest_record free in omega arith); lent = tt }
  room_holds Dropping lent free whole = go (made_cases len j mark)
    where
      long : longest_record ≤ length j
      long = ltb-false (length j) longest_record free

      octets : Bytes j
      octets = bytes_when_valid j lent

      go : Made len j mark → RoomHolds Dropping j (make_room len j mark)
      go (there q e) = subst (RoomHolds Dropping j) (sym e) (record { number = refl; same = refl; inside = omega arith; lent = lent })
      go (refused q r e) = absurd (omega (arith, long))
      go (on_the_way q r t e) = absurd (let no_way : true ≡ false = rw (lt-ltb (length j - mark) longest_record q, t) at whole in let z : ◌≡◌ {A = ℕ} 0 1 = cc in omega arith)
      go (dropping q r rs t e) =
          let is = (bytes_of_rows len j mark rs t (bytes_of_back j mark octets inside)).0 in
          let enough = room_enough j mark inside rs is q r in
          let k = dropped (missing j mark) 0 rs in
          let low = rows_room j mark inside rs is k in
          let lent₁ = valid_when_bytes (make_room len j mark).j (bytes_of_room len j mark small inside octets) in
          subst (RoomHolds Dropping j) (sym e)
          (record { number = refl; same = room.room_length j mark inside rs is k; inside = omega arith; lent = subst (λ (c : RoomCall). ValidBytes c.j) e lent₁ })

  module _ (w : Manner) (lent : JournalLent w j) (free : no_room w j mark ≡ false) (whole : torn_way w len j mark ≡ false) where
    pub room_number : (room_for w len j mark).a.number ≡ 0
    room_number = (room_holds w lent free whole).number

    pub room_length : length (room_for w len j mark).j ≡ length j
    room_length = (room_holds w lent free whole).same

    pub room_inside : (room_for w len j mark).a.mark + longest_record ≤ length j
    room_inside = (room_holds w lent free whole).inside

    pub room_lent : JournalLent w (room_for w len j mark).j
    room_lent = (room_holds w lent free whole).lent

-- ---- a step's record as a row
abbrev InSlot : ℕ → ℕ → Type 0
InSlot k v = (valid_value k v ≡ true) × (v < 2 ^ 32)

abbrev InByte : ℕ → ℕ → Type 0
InByte k v = v < 256

abbrev pub row_after : Request → Seen → Row
row_after r a =
    let t = one_step a.board a.slots a.memory r.level r.vector in
    record { slots = diffs 0 a.slots t.s; bytes = diffs 0 a.memory t.m }

pub row_after_bytes : (r : Request) (a : Seen) → record_after r a ≡ row_bytes (row_after r a)
unfolding record_after
row_after_bytes r a = refl

module _ (r : Request) (a : Seen) (v : Valid a.slots a.memory) where
  pub row_after_good : Good (length a.memory) (row_after r a)
  row_after_good =
      let t = one_step a.board a.slots a.memory r.level r.vector in
      let k = kept_by a.board a.slots a.memory r.level r.vector v in
      record {
        few_slots = omega (arith, length_of_diffs 0 a.slots t.s, v.slots);
        few_bytes = k.few;
        slots_ascend = ascending_of_diffs 0 slot_limit a.slots t.s (omega (arith, v.slots));
        bytes_ascend = ascending_of_diffs 0 (length a.memory) a.memory t.m (omega arith);
        slots_small = small_of_diffs 0 a.slots t.s (each_implies InSlot (λ k v. v < 2 ^ 32) (λ k v h. h.1) 0 a.slots v.values);
        bytes_small = small_of_diffs 0 a.memory t.m (each_implies InByte (λ k v. v < 2 ^ 32) (λ k v h. omega arith) 0 a.memory v.bytes);
        slots_valid = valid_of_diffs valid_value 0 a.slots t.s (each_implies InSlot (λ k v. valid_value k v ≡ true) (λ k v h. h.0) 0 a.slots v.values);
        bytes_valid = valid_of_diffs valid_byte 0 a.memory t.m (each_implies InByte (λ k v. valid_byte k v ≡ true) (λ k v h. lt-ltb v 256 h) 0 a.memory v.bytes);
      }

  pub lent_written : (w : Manner) (j : List ℕ) (mark : ℕ) → JournalLent w j → JournalLent w (written j mark (record_after r a))
  lent_written Keeping j mark h = tt
  lent_written Dropping j mark h =
      let small = small_enough a.slots a.memory v in
      let b = bytes_of_good (length a.memory) (row_after r a) (omega arith) row_after_good in
      valid_when_bytes (written j mark (record_after r a)) (bytes_of_written j mark (record_after r a) (bytes_when_valid j h) (subst Bytes (sym (row_after_bytes r a)) b))
