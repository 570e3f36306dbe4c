-- HoldLaws.antt - a journal that holds the records kept, in the manner that drops: an accepted step and an accepted undo keep it so.
-- * Holds: below the mark are the records of the last `kept` of the steps that stand, after what is left from before the start.
-- * step_kept: a step's record comes after them, once room is made by dropping the oldest: those from before the start, then the steps'.
-- * undoing_kept, undo_kept: an undo takes the last record. undoing_none: where none is kept though a step stands, it is refused by 7.
-- Source: [00 demand 3], [01 The journal], [K5].
use Prim.Native.Nat.{ℕ, suc, ◌+◌, ◌-◌, ◌^◌, ◌≤◌, ◌<◌}
use mathlib.Core.Path.{◌≡◌, refl, sym, ap, ◌∙◌, subst}
use mathlib.Core.Bool.{Bool, true, false}
use mathlib.Core.List.{List, [], ◌∷◌, ◌++◌, append_assoc, reverse, reverse-append}
use native.Mathlib.Nat.{zero-add}
use native.Mathlib.Omega.{arith}
use lib.ListN.{length, take, drop, length-append, take-append-drop, drop_of_length-le}
use lib.Seq.{drop-append-le, drop-append-add, take_at, take-take, length-take-le}
use lib.Dec.{leb}
use borrow.Author.Tests.{leb-true, leb-false}
use Rattle.numbers.specs.Number.{back, written}
use Rattle.numbers.proofs.NumberLaws.{Bytes}
use Rattle.numbers.proofs.WrittenLaws.{length_written, take_written}
use Rattle.record.specs.Limits.{ValidBytes}
use Rattle.oldest.specs.Room.{Row, rows_bytes, dropped, RoomCall, without, missing, make_room}
use Rattle.oldest.proofs.RowLaws.{AllGood, back_as_reverse, rows_bytes_append, bytes_of_rows}
use Rattle.oldest.proofs.RoomLaws.{Made, there, refused, on_the_way, dropping, made_cases, rows_room}
use Rattle.oldest.proofs.OctetLaws.{bytes_when_valid, bytes_of_back}
use Rattle.calls.specs.declared.Manner.TheVariants.{Dropping}
use Rattle.calls.specs.Refusals.{this, later}
use Rattle.calls.specs.History.{Machine, Request, step_of, stepping, undoing, act}
use Rattle.calls.specs.History.{Seen, seen, record_after, one_more, taken_alone}
use Rattle.calls.specs.Kept.{records_alone, LeftOver}
use Rattle.calls.proofs.ValidLaws.{Lent, small_enough, state_fits_when}
use Rattle.calls.proofs.RefusalLaws.{step_inv, undo_verdict, no_bad_memory, no_bad_rom, no_bad_state, no_bad_window}
use Rattle.calls.proofs.JournalLaws.{room_number}
use Rattle.calls.proofs.ActLaws.{room_at, seen_at, act_step, step_number_zero, step_valid, step_room}
use Rattle.calls.proofs.ActLaws.{valid_after, board_after, step_board, journal_lent_after}
use Rattle.calls.proofs.BackLaws.{undoing_to}
use Rattle.calls.proofs.KeptLaws.{AllValid, lent_alone, memory_alone, rows_alone, records_as_rows, rows_alone_good, rows_alone_drop}
use Rattle.calls.proofs.KeptLaws.{older, left_over_drop}

-- a machine with the slots and the memory that are seen, and another mark
abbrev pub placed : Seen → List ℕ → ℕ → Machine
placed a j mark = record { board = a.board; slots = a.slots; memory = a.memory; journal = j; mark = mark }

empty_part : (p q : List ℕ) → p ++ q ≡ [] → q ≡ []
empty_part [] q e = e
empty_part (y ∷ p) q e = absurd (let z = ap length e in omega arith)

-- ---- a history from one start
module _ (x₀ : Machine) where
  abbrev alone : List Request → Seen
  alone rs = taken_alone rs (seen x₀)

  abbrev len : ℕ
  len = length x₀.memory

  abbrev records : ℕ → List Request → List ℕ
  records k rs = records_alone k rs (seen x₀)

  -- the journal below a mark holds the records of the last `kept` standing steps, after what is left from before the start
  pub record Holds (j : List ℕ) (mark : ℕ) (rs : List Request) : Type 0 where
    pub valid : AllValid rs (seen x₀)
    pub kept : ℕ
    pub rest : List ℕ
    pub few : kept ≤ length rs
    pub oldest_first : kept < length rs → rest ≡ []
    pub left_over : LeftOver x₀ rest
    pub bytes : take mark j ≡ rest ++ records kept rs
    pub below : mark ≤ length j
    pub lent_journal : ValidBytes j

  -- the machine is where the standing steps alone would be, but for the mark, and its journal holds the records kept
  pub record At (x : Machine) (rs : List Request) : Type 0 where
    pub journal : List ℕ
    pub mark : ℕ
    pub is : x ≡ placed (alone rs) journal mark
    pub holds : Holds journal mark rs

  -- ---- an undo where a record is kept
  module _ (j : List ℕ) (mark : ℕ) (r : Request) (rs : List Request) (h : Holds j mark (r ∷ rs)) (k : ℕ) (some : h.kept ≡ suc k) where
    abbrev last : List ℕ
    last = record_after r (alone rs)

    abbrev pub under : List ℕ
    under = h.rest ++ records k rs

    stacked : take mark j ≡ under ++ last
    stacked = h.bytes ∙ ap (λ (n : ℕ). h.rest ++ records n (r ∷ rs)) some ∙ sym (append_assoc h.rest (records k rs) last)

    pub tall : length under + length last ≡ mark
    tall = omega (arith, ap length stacked, length-append under last, length-take-le mark j h.below)

    pub lower : take (length under) j ≡ under
    lower = sym (take-take (length under) mark j (omega (arith, tall))) ∙ ap (take (length under)) stacked ∙ take_at under last (length under) refl

    pub undoing_kept : undoing (placed (alone (r ∷ rs)) j mark)
        ≡ record { s = (alone rs).slots; m = (alone rs).memory; a = record { number = 0; mark = length under } }
    unfolding one_more record_after
    undoing_kept =
        let b : Seen = record { board = (alone rs).board; slots = (alone rs).slots; memory = (alone rs).memory; mark = length under } in
        let ends : back j (length under + length last) ≡ reverse last ++ back j (length under) =
        ap (back j) tall ∙ back_as_reverse j mark ∙ ap reverse stacked ∙ reverse-append under last
        ∙ ap (λ (l : List ℕ). reverse last ++ l) (ap reverse (sym lower) ∙ sym (back_as_reverse j (length under))) in
        ap (λ (n : ℕ). undoing (placed (alone (r ∷ rs)) j n)) (sym tall) ∙ undoing_to r b h.valid.0 h.valid.1 j (omega (arith, tall, h.below)) ends

    abbrev pub undo_kept : Holds j (length under) rs
    undo_kept =
        record {
          valid = h.valid.2;
          kept = k;
          rest = h.rest;
          few = omega (arith, h.few);
          oldest_first = λ l. h.oldest_first (omega arith);
          left_over = h.left_over;
          bytes = lower;
          below = omega (arith, tall, h.below);
          lent_journal = h.lent_journal;
        }

  -- ---- an undo where none is kept, though a step stands: the mark is 0
  pub undoing_none : (j : List ℕ) (mark : ℕ) (r : Request) (rs : List Request) (h : Holds j mark (r ∷ rs)) → h.kept ≡ 0
      → (undoing (placed (alone (r ∷ rs)) j mark)).a.number ≡ 7
  undoing_none j mark r rs h z =
      let a = alone (r ∷ rs) in
      let v = valid_after r (alone rs) h.valid.0 in
      let gone : length h.rest ≡ 0 = ap length (h.oldest_first (omega arith)) in
      let empty : length (records h.kept (r ∷ rs)) ≡ 0 = ap (λ (n : ℕ). length (records n (r ∷ rs))) z in
      let at_0 : mark ≡ 0 =
      omega (arith, ap length h.bytes, length-append h.rest (records h.kept (r ∷ rs)), length-take-le mark j h.below) in
      let o = board_after r (alone rs) h.valid.0 h.valid.1 in
      ((undo_verdict a.board a.slots a.memory j mark).exactly 7).1
      (later (no_bad_memory a.memory v.fits)
      (later (no_bad_rom a.board.rom a.memory o.0)
      (later (no_bad_state a.slots (state_fits_when a.slots a.memory v))
      (later (no_bad_window a.board a.memory o.1)
      (later (λ q. omega (arith, h.below)) (this at_0 refl))))))

  -- ---- an accepted step
  module _ (lent : Lent x₀.slots x₀.memory) (octets : ValidBytes x₀.journal) (inside : x₀.mark ≤ length x₀.journal) where
    -- the record of it after what is kept
    module _ (r : Request) (rs : List Request) (valid : AllValid (r ∷ rs) (seen x₀)) where
      abbrev new : List ℕ
      new = record_after r (alone rs)

      pushed : (j : List ℕ) (mark kept : ℕ) (rest : List ℕ) → kept ≤ length rs → (kept < length rs → rest ≡ []) → LeftOver x₀ rest
          → mark + length new ≤ length j → take mark j ≡ rest ++ records kept rs → ValidBytes (written j mark new)
          → Holds (written j mark new) (mark + length new) (r ∷ rs)
      pushed j mark kept rest few first over room text bytes =
          record {
            valid = valid;
            kept = suc kept;
            rest = rest;
            few = omega arith;
            oldest_first = λ q. first (omega arith);
            left_over = over;
            bytes = take_written j mark new room ∙ ap (λ (l : List ℕ). l ++ new) text ∙ append_assoc rest (records kept rs) new;
            below = omega (arith, length_written j mark new room);
            lent_journal = bytes;
          }

      module _ (j : List ℕ) (mark : ℕ) (h : Holds j mark rs) where
        abbrev ours : List Row
        ours = rows_alone h.kept rs (seen x₀)

        small : len ≤ 2 ^ 32
        small = omega (arith, small_enough (alone rs).slots (alone rs).memory valid.0, memory_alone rs (seen x₀) valid.2)

        octets_below : Bytes (back j mark)
        octets_below = bytes_of_back j mark (bytes_when_valid j h.lent_journal) h.below

        octets_at_start : Bytes (back x₀.journal x₀.mark)
        octets_at_start = bytes_of_back x₀.journal x₀.mark (bytes_when_valid x₀.journal octets) inside

        -- the step's record written where room leaves the mark
        abbrev Next : RoomCall → Type 0
        Next c =
            c.a.mark + length new ≤ length c.j → ValidBytes (written c.j c.a.mark new)
            → Holds (written c.j c.a.mark new) (c.a.mark + length new) (r ∷ rs)

        -- of all that were read the oldest k are dropped: of os, from before the start, and then of ours
        cut : (all os : List Row) → all ≡ os ++ ours → h.rest ≡ rows_bytes os → AllGood len os → (k : ℕ)
            → length (rows_bytes (drop k all)) ≤ length j → Next (without k all j)
        cut all os parts same good k low room bytes = by (leb k (length os)) refl
          where
            b : List ℕ
            b = rows_bytes (drop k all)

            text : take (length b) (written j 0 b) ≡ b
            text = ap (λ (n : ℕ). take n (written j 0 b)) (sym (zero-add (length b))) ∙ take_written j 0 b (omega arith)

            by : (t : Bool) → leb k (length os) ≡ t → Holds (written (written j 0 b) (length b) new) (length b + length new) (r ∷ rs)
            by true q =
                let left : drop k all ≡ drop k os ++ ours = ap (drop k) parts ∙ drop-append-le k os ours (leb-true k (length os) q) in
                let split : rows_bytes os ≡ rows_bytes (take k os) ++ rows_bytes (drop k os) =
                ap rows_bytes (sym (take-append-drop k os)) ∙ rows_bytes_append (take k os) (drop k os) in
                let none_left : h.kept < length rs → rows_bytes (drop k os) ≡ [] =
                λ l. empty_part (rows_bytes (take k os)) (rows_bytes (drop k os)) (sym split ∙ sym same ∙ h.oldest_first l) in
                pushed (written j 0 b) (length b) h.kept (rows_bytes (drop k os)) h.few none_left
                (left_over_drop x₀ small inside octets_at_start h.rest h.left_over os good same k) room
                (text ∙ ap rows_bytes left ∙ rows_bytes_append (drop k os) ours
                ∙ ap (λ (l : List ℕ). rows_bytes (drop k os) ++ l) (sym (records_as_rows h.kept rs (seen x₀))))
                bytes
            by false q =
                let high = leb-false k (length os) q in
                let n = k - length os in
                let at : k ≡ length os + n = omega arith in
                let left : drop k all ≡ rows_alone (h.kept - n) rs (seen x₀) =
                ap (drop k) parts ∙ ap (λ (m : ℕ). drop m (os ++ ours)) at ∙ drop-append-add os ours n
                ∙ rows_alone_drop h.kept n rs (seen x₀) h.few in
                let over : LeftOver x₀ [] =
                subst (λ (l : List Row). LeftOver x₀ (rows_bytes l)) (drop_of_length-le os {i = length os} (omega arith))
                (left_over_drop x₀ small inside octets_at_start h.rest h.left_over os good same (length os)) in
                pushed (written j 0 b) (length b) (h.kept - n) [] (omega (arith, h.few)) (λ l. refl) over room
                (text ∙ ap rows_bytes left ∙ sym (records_as_rows (h.kept - n) rs (seen x₀))) bytes

        -- by the room that was found or made
        next : Made len j mark → (make_room len j mark).a.number ≡ 0 → Next (make_room len j mark)
        next (there enough e) ok =
            subst Next (sym e) (λ room bytes. pushed j mark h.kept h.rest h.few h.oldest_first h.left_over room h.bytes bytes)
        next (refused short low e) ok = absurd (let z : ◌≡◌ {A = ℕ} 5 0 = ap (λ (c : RoomCall). c.a.number) (sym e) ∙ ok in omega arith)
        next (on_the_way short long t e) ok = absurd (let z : ◌≡◌ {A = ℕ} 8 0 = ap (λ (c : RoomCall). c.a.number) (sym e) ∙ ok in omega arith)
        next (dropping short long all t e) ok =
            let is = (bytes_of_rows len j mark all t octets_below).0 in
            let k = dropped (missing j mark) 0 all in
            let stand = h.bytes ∙ ap (λ (l : List ℕ). h.rest ++ l) (records_as_rows h.kept rs (seen x₀)) in
            let v = older len small j mark h.below octets_below h.rest ours all (rows_alone_good h.kept rs (seen x₀) h.valid) stand t in
            subst Next (sym e) (cut all v.0 v.1 v.2 v.3 k (rows_room j mark h.below all is k))

    -- the step, in the room that it finds or makes
    module _ (j : List ℕ) (mark : ℕ) (rs : List Request) (h : Holds j mark rs) where
      abbrev here : Machine
      here = placed (alone rs) j mark

      pub lent_here : Lent here.slots here.memory
      lent_here = lent_alone rs (seen x₀) lent h.valid

      pub step_kept : (r : Request) → (stepping Dropping r.level r.vector here).a.number ≡ 0
          → At (act Dropping (step_of r.level r.vector) here) (r ∷ rs)
      unfolding one_more record_after
      step_kept r ok =
          let c = room_at Dropping here in
          let b = seen_at Dropping here in
          let v = step_valid Dropping r.level r.vector here lent_here ok in
          let i = step_inv Dropping here.board here.slots here.memory r.level j mark (step_number_zero Dropping r.level r.vector here ok) in
          let fits : length here.memory ≤ 2 ^ 32 = omega (arith, small_enough here.slots here.memory v) in
          let number = room_number (length here.memory) j mark fits h.below Dropping h.lent_journal i.4 i.6 in
          let is = act_step Dropping r here ok in
          let next-lent = subst (λ (y : Machine). ValidBytes y.journal) is (journal_lent_after Dropping r here lent_here h.lent_journal ok) in
          let valid : AllValid (r ∷ rs) (seen x₀) = (v, step_board Dropping r.level r.vector here ok, h.valid) in
          let same_size = memory_alone rs (seen x₀) h.valid in
          let go =
          subst (λ (n : ℕ). (make_room n j mark).a.number ≡ 0 → Next r rs valid j mark h (make_room n j mark)) (sym same_size)
          (next r rs valid j mark h (made_cases len j mark)) in
          record {
            journal = written c.j c.a.mark (record_after r b);
            mark = (one_more r b).mark;
            is = is;
            holds = go number (step_room Dropping r here lent_here h.lent_journal ok) next-lent;
          }
