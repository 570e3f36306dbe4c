-- ActLaws.antt - the machine after one call: an accepted step is one-step and its record at the mark; a refused call changes nothing.
-- * act_step: after an accepted step, slots, memory and mark are those of one_more, and the journal has the step's record written at the mark;
--   mark and journal are those that the room leaves (room_at, seen_at), which in the keeping manner are the ones given.
-- * step_valid, step_board, step_room: an accepted step starts in a valid state with a window that fits, and its record fits; valid_after,
--   lent_after, board_after: it ends in such a state.
-- * act_step_refused, act_run_refused, act_undo_refused: a refused call leaves the machine as it was.
-- * record_some: a record is never empty.
-- Source: [01 Calls and what they give back], [01 The journal], [K5], [K7].
use Prim.Native.Nat.{ℕ, zero, suc, ◌+◌, ◌/◌, ◌%◌, ◌^◌, ◌≤◌, ◌<◌}
use mathlib.Core.Path.{◌≡◌, refl, ap}
use mathlib.Core.Bool.{Bool, true, false}
use mathlib.Core.List.{List, [], ◌∷◌, ◌++◌}
use native.Mathlib.Omega.{arith}
use lib.ListN.{length, length-append}
use lib.Dec.{ltb}
use Rattle.numbers.specs.Number.{groups, number_bytes, written}
use Rattle.record.specs.Limits.{longest_record}
use Rattle.record.specs.Change.{Change, changes_bytes, record_of, diffs}
use Rattle.step.specs.Steps.{one_step}
use Rattle.oldest.specs.Room.{RoomCall}
use Rattle.calls.specs.declared.Manner.{Manner}
use Rattle.calls.specs.Calls.{StepCall, RunCall, UndoCall, room_for, step_number, step_taken, step_with_room}
use Rattle.calls.specs.History.{Machine, Request, step_of, run_of, undo_once, stepping, running_on, undoing, act, Seen, record_after}
use Rattle.calls.specs.History.{one_more}
use Rattle.calls.proofs.ValidLaws.{BoardFits, Lent, Valid, lent_when_valid, valid_when_accepted, valid_after_step, board_after_step, record_room, small_enough}
use Rattle.calls.proofs.JournalLaws.{JournalLent, room_length, room_inside, room_lent, lent_written}
use Rattle.calls.proofs.RefusalLaws.{step_call_number, step_accepted, step_refused, run_refused, undo_refused, step_inv}

-- a machine by what is seen of it and its journal
abbrev pub machine_at : Seen → List ℕ → Machine
machine_at a j = record { board = a.board; slots = a.slots; memory = a.memory; journal = j; mark = a.mark }

pub act_undo_refused : (w : Manner) (x : Machine) → ((undoing x).a.number ≡ 0 → ⊥) → act w undo_once x ≡ x
unfolding act
act_undo_refused w x h =
    ap (λ (c : UndoCall). record { board = x.board; slots = c.s; memory = c.m; journal = x.journal; mark = c.a.mark }) (undo_refused x.board x.slots x.memory x.journal x.mark h)

module _ (r : Request) (a : Seen) (v : Valid a.slots a.memory) where
  pub valid_after : Valid (one_more r a).slots (one_more r a).memory
  unfolding one_more
  valid_after = valid_after_step a.board a.slots a.memory r.level r.vector v

  pub lent_after : Lent (one_more r a).slots (one_more r a).memory
  lent_after = lent_when_valid (one_more r a).slots (one_more r a).memory valid_after

  pub board_after : BoardFits a.board a.memory → BoardFits (one_more r a).board (one_more r a).memory
  unfolding one_more
  board_after = board_after_step a.board a.slots a.memory r.level r.vector v

  pub record_after_length : length (record_after r a) ≤ longest_record
  unfolding record_after
  record_after_length = record_room a.board a.slots a.memory r.level r.vector v

module _ (w : Manner) where
  -- ---- refused calls
  pub act_step_refused : (level vector : ℕ) (x : Machine) → ((stepping w level vector x).a.number ≡ 0 → ⊥) → act w (step_of level vector) x ≡ x
  unfolding act
  act_step_refused level vector x h =
      ap (λ (c : StepCall). record { board = x.board; slots = c.s; memory = c.m; journal = c.j; mark = c.a.mark }) (step_refused w x.board x.slots x.memory level x.journal x.mark vector h)

  pub act_run_refused : (budget stop : ℕ) (x : Machine) → ((running_on w budget stop x).a.number ≡ 0 → ⊥) → act w (run_of budget stop) x ≡ x
  unfolding act
  act_run_refused budget stop x h =
      ap (λ (c : RunCall). record { board = x.board; slots = c.s; memory = c.m; journal = c.j; mark = c.a.mark }) (run_refused x.board x.slots x.memory budget x.journal x.mark w stop h)

  -- ---- an accepted step
  -- the room that a step finds or makes, and the machine there; where all records are kept it is the machine as it is
  abbrev pub room_at : Machine → RoomCall
  room_at x = room_for w (length x.memory) x.journal x.mark

  abbrev pub seen_at : Machine → Seen
  seen_at x = record { board = x.board; slots = x.slots; memory = x.memory; mark = (room_at x).a.mark }

  pub act_step : (r : Request) (x : Machine) → (stepping w r.level r.vector x).a.number ≡ 0
      → act w (step_of r.level r.vector) x ≡ machine_at (one_more r (seen_at x)) (written (room_at x).j (room_at x).a.mark (record_after r (seen_at x)))
  unfolding act step_with_room step_taken one_more record_after
  act_step r x e =
      ap (λ (c : StepCall). record { board = x.board; slots = c.s; memory = c.m; journal = c.j; mark = c.a.mark }) (step_accepted w x.board x.slots x.memory r.level x.journal x.mark r.vector e)

  pub step_number_zero : (level vector : ℕ) (x : Machine) → (stepping w level vector x).a.number ≡ 0 → step_number w x.board x.slots x.memory level x.journal x.mark ≡ 0
  step_number_zero level vector x e = cc (step_call_number w x.board x.slots x.memory level x.journal x.mark vector)

  pub step_valid : (level vector : ℕ) (x : Machine) → Lent x.slots x.memory → (stepping w level vector x).a.number ≡ 0 → Valid x.slots x.memory
  step_valid level vector x l e =
      let i = step_inv w x.board x.slots x.memory level x.journal x.mark (step_number_zero level vector x e) in
      valid_when_accepted x.slots x.memory l i.0 i.1

  pub step_board : (level vector : ℕ) (x : Machine) → (stepping w level vector x).a.number ≡ 0 → BoardFits x.board x.memory
  step_board level vector x e = (step_inv w x.board x.slots x.memory level x.journal x.mark (step_number_zero level vector x e)).7

  module _ (r : Request) (x : Machine) (l : Lent x.slots x.memory) (jl : JournalLent w x.journal) (e : (stepping w r.level r.vector x).a.number ≡ 0) where
    valid_here : Valid x.slots x.memory
    valid_here = step_valid r.level r.vector x l e

    small_here : length x.memory ≤ 2 ^ 32
    small_here = omega (arith, small_enough x.slots x.memory valid_here)

    pub room_same : length (room_at x).j ≡ length x.journal
    room_same =
        let i = step_inv w x.board x.slots x.memory r.level x.journal x.mark (step_number_zero r.level r.vector x e) in
        room_length (length x.memory) x.journal x.mark small_here i.3 w jl i.4 i.6

    pub step_room : (room_at x).a.mark + length (record_after r (seen_at x)) ≤ length (room_at x).j
    step_room =
        let i = step_inv w x.board x.slots x.memory r.level x.journal x.mark (step_number_zero r.level r.vector x e) in
        omega (arith, room_inside (length x.memory) x.journal x.mark small_here i.3 w jl i.4 i.6, room_same, record_after_length r (seen_at x) valid_here)

    pub journal_lent_after : JournalLent w (act w (step_of r.level r.vector) x).journal
    journal_lent_after =
        let i = step_inv w x.board x.slots x.memory r.level x.journal x.mark (step_number_zero r.level r.vector x e) in
        let k = room_lent (length x.memory) x.journal x.mark small_here i.3 w jl i.4 i.6 in
        rw (act_step r x e) (lent_written r (seen_at x) valid_here w (room_at x).j (room_at x).a.mark k)

-- ---- a record is never empty
groups_some : (k v : ℕ) → 0 < length (groups k v)
groups_some zero v = omega arith
groups_some (suc k) v = go (ltb v 128) refl
  where
    go : (b : Bool) → ltb v 128 ≡ b → 0 < length (groups (suc k) v)
    go true e = rw e (omega arith)
    go false e = rw e (omega (arith, length-append (groups k (v / 128)) ((v % 128 + 128) ∷ [])))

pub record_some : (ss bs : List Change) → 0 < length (record_of ss bs)
unfolding record_of number_bytes
record_some ss bs =
    omega (arith, length-append (changes_bytes ss ++ changes_bytes bs ++ number_bytes (length ss)) (number_bytes (length bs)), groups_some 4 (length bs))

pub record_after_some : (r : Request) (a : Seen) → 0 < length (record_after r a)
unfolding record_after
record_after_some r a =
    record_some (diffs 0 a.slots (one_step a.board a.slots a.memory r.level r.vector).s) (diffs 0 a.memory (one_step a.board a.slots a.memory r.level r.vector).m)
