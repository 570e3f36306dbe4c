-- AcceptLaws.antt - what an accepted step call answers in either manner, and what it is where it drops no record.
-- refused_answer, accepted_call, event_told: laws of calls at a machine; some_dropped: where room is made a record goes;
-- plain_told, plain_next: where no record is dropped the journal keeps all.
-- Uses: numbers, record, undo, oldest, step, calls.  Source: [01 Calls], [K5], [K7].
use Prim.Native.Nat.{ℕ, zero, suc, ◌+◌, ◌-◌, ◌<◌, ◌≤◌}
use native.Mathlib.Omega.{arith}
use mathlib.Core.Path.{◌≡◌, refl, sym, ap, ◌∙◌, subst}
use mathlib.Core.Bool.{false}
use mathlib.Core.List.{List, [], ◌∷◌}
use lib.ListN.{length}
use borrow.Author.Tests.{ltb-false, lt-ltb}
use Rattle.codes.specs.Codes.{NoEvent}
use Rattle.numbers.specs.Number.{back, written}
use Rattle.record.specs.Limits.{longest_record}
use Rattle.record.specs.Change.{step_record}
use Rattle.undo.specs.Undo.{Record, found, none, shaped_record}
use Rattle.undo.proofs.ReadLaws.{length_back}
use Rattle.oldest.specs.Room.{Row, row_bytes, Way, rows, torn, more_rows, read_rows, rows_of, dropped, RoomCall, as_it_was, missing}
use Rattle.oldest.proofs.RoomLaws.{Made, there, refused, on_the_way, dropping, made_cases}
use Rattle.step.specs.Steps.{one_step, step_clocks}
use Rattle.exception.specs.Exceptions.{Stepped}
use Rattle.calls.specs.declared.Manner.{Manner}
use Rattle.calls.specs.declared.Manner.TheVariants.{Dropping, Keeping}
use Rattle.calls.specs.Calls.{no_room, torn_way, room_for, StepCall, step_number, step_taken, in_room, step_with_room}
use Rattle.calls.specs.History.{Machine, Request, stepping, Seen, record_after, one_more}
use Rattle.calls.proofs.RefusalLaws.{no_torn_way, step_accepted, step_refused, step_inv}
use Rattle.calls.proofs.ActLaws.{machine_at, room_at, act_step, step_number_zero}
use Rattle.fence.specs.Rows.{answer_to, next}

-- ---- a call on a machine
module _ (w : Manner) (q : Request) (x : Machine) where
  abbrev pub number_of : ℕ
  number_of = step_number w x.board x.slots x.memory q.level x.journal x.mark

  -- the step itself
  abbrev pub one : Stepped
  one = one_step x.board x.slots x.memory q.level q.vector

  abbrev pub record_of_it : List ℕ
  record_of_it = step_record x.slots one.s x.memory one.m

  pub refused_answer : ((answer_to w q x).number ≡ 0 → ⊥)
      → answer_to w q x ≡ record { number = (answer_to w q x).number; event = NoEvent; mark = x.mark; clocks = 0; moved = 0; dropped = 0 }
  refused_answer h = ap (λ (c : StepCall). c.a) (step_refused w x.board x.slots x.memory q.level x.journal x.mark q.vector h)

  module _ (h : (answer_to w q x).number ≡ 0) where
    pub accepted_call : stepping w q.level q.vector x
        ≡ step_with_room w x.board x.slots x.memory q.level q.vector x.journal x.mark
    accepted_call = step_accepted w x.board x.slots x.memory q.level x.journal x.mark q.vector h

    pub event_told : (answer_to w q x).event ≡ one.event
    unfolding step_with_room step_taken
    event_told = ap (λ (c : StepCall). c.a.event) accepted_call

-- ---- records are dropped wherever room is made
abbrev AtLeast : ℕ → Way → Type 0
AtLeast k (rows rs) = k ≤ length rs
AtLeast k torn = Unit {0}

all_kept : (f len : ℕ) (s : List ℕ) (acc : List Row) → AtLeast (length acc) (read_rows (shaped_record len) f s acc)
all_kept zero len [] acc = omega arith
all_kept zero len (y ∷ s) acc = tt
all_kept (suc f) len [] acc = omega arith
all_kept (suc f) len (y ∷ s) acc = go (λ t acc. all_kept f len t acc) (shaped_record len (y ∷ s))
  where
    less : (k : ℕ) (v : Way) → AtLeast (suc k) v → AtLeast k v
    less k (rows rs) h = omega (arith, h)
    less k torn h = tt

    go : ((t : List ℕ) (acc : List Row) → AtLeast (length acc) (read_rows (shaped_record len) f t acc)) → (r : Record)
        → AtLeast (length acc) (more_rows (read_rows (shaped_record len) f) acc r)
    go ih none = tt
    go ih (found ss bs t) =
        let more : List Row = record { slots = ss; bytes = bs } ∷ acc in less (length acc) (read_rows (shaped_record len) f t more) (ih t more)

one_read : (f len : ℕ) (s : List ℕ) → 0 < length s → AtLeast 1 (read_rows (shaped_record len) f s [])
one_read f len [] h = absurd (omega (arith, h))
one_read zero len (y ∷ s) h = tt
one_read (suc f) len (y ∷ s) h = go (shaped_record len (y ∷ s))
  where
    go : (r : Record) → AtLeast 1 (more_rows (read_rows (shaped_record len) f) [] r)
    go none = tt
    go (found ss bs t) = all_kept f len t (record { slots = ss; bytes = bs } ∷ [])

some_rows : (len : ℕ) (j : List ℕ) (mark : ℕ) (rs : List Row) → 0 < mark → mark ≤ length j → rows_of len j mark ≡ rows rs → 1 ≤ length rs
unfolding rows_of
some_rows len j mark rs p h e = subst (AtLeast 1) e (one_read mark len (back j mark) (omega (arith, length_back j mark h)))

some_dropped : (need : ℕ) (rs : List Row) → 0 < need → 1 ≤ length rs → dropped need 0 rs ≡ 0 → ⊥
some_dropped need [] h k e = omega (arith, k)
some_dropped need (r ∷ rs) h k e =
    absurd (let z : ◌≡◌ {A = ℕ} (suc (dropped need (0 + length (row_bytes r)) rs)) 0 = rw (lt-ltb 0 need h) at e in omega (arith, z))

-- where there is room already, or none of the records goes
pub record Plain (w : Manner) (len : ℕ) (j : List ℕ) (mark : ℕ) : Type 0 where
  pub is : room_for w len j mark ≡ as_it_was 0 j mark
  pub free : longest_record ≤ length j - mark

plain_by : (w : Manner) (len : ℕ) (j : List ℕ) (mark : ℕ) → mark ≤ length j → no_room w j mark ≡ false → torn_way w len j mark ≡ false
    → (room_for w len j mark).a.dropped ≡ 0 → Plain w len j mark
plain_by Keeping len j mark inside roomy whole e = record { is = refl; free = ltb-false (length j - mark) longest_record roomy }
plain_by Dropping len j mark inside roomy whole e = go (made_cases len j mark)
  where
    go : Made len j mark → Plain Dropping len j mark
    go (there h k) = record { is = k; free = h }
    go (refused h l k) = absurd (omega (arith, l, ltb-false (length j) longest_record roomy))
    go (on_the_way h l t k) = absurd (no_torn_way len j mark whole (h, t))
    go (dropping h l rs t k) =
        absurd (some_dropped (missing j mark) rs (omega (arith, h)) (some_rows len j mark rs (omega (arith, h, l)) inside t)
        (sym (ap (λ (c : RoomCall). c.a.dropped) k) ∙ e))

-- ---- a step that drops nothing: the record at the mark, and nothing else of the journal
module _ (w : Manner) (q : Request) (x : Machine) (h : (answer_to w q x).number ≡ 0) (e : (answer_to w q x).dropped ≡ 0) where
  none_gone : (room_at w x).a.dropped ≡ 0
  unfolding step_with_room step_taken
  none_gone = sym (ap (λ (c : StepCall). c.a.dropped) (accepted_call w q x h)) ∙ e

  plain : Plain w (length x.memory) x.journal x.mark
  plain =
      let i = step_inv w x.board x.slots x.memory q.level x.journal x.mark (step_number_zero w q.level q.vector x h) in
      plain_by w (length x.memory) x.journal x.mark i.3 i.4 i.6 none_gone

  pub room_free : longest_record ≤ length x.journal - x.mark
  room_free = plain.free

  pub plain_told : answer_to w q x
      ≡ record {
        number = 0;
        event = (one w q x).event;
        mark = x.mark + length (record_of_it w q x);
        clocks = step_clocks x.board x.slots x.memory q.level q.vector;
        moved = 0;
        dropped = 0;
      }
  unfolding step_with_room step_taken
  plain_told =
      ap (λ (c : StepCall). c.a) (accepted_call w q x h)
      ∙ ap (λ (r : RoomCall). (in_room r.a (step_taken x.board x.slots x.memory q.level q.vector r.j r.a.mark)).a)
      plain.is

  abbrev pub plain_machine : Machine
  plain_machine =
      record {
        board = x.board;
        slots = (one w q x).s;
        memory = (one w q x).m;
        journal = written x.journal x.mark (record_of_it w q x);
        mark = x.mark + length (record_of_it w q x);
      }

  abbrev there_is : RoomCall → Seen
  there_is r = record { board = x.board; slots = x.slots; memory = x.memory; mark = r.a.mark }

  pub plain_next : next w q x ≡ plain_machine
  unfolding one_more record_after
  plain_next =
      act_step w q x h
      ∙ ap (λ (r : RoomCall). machine_at (one_more q (there_is r)) (written r.j r.a.mark (record_after q (there_is r)))) plain.is
