-- FenceLaws.antt - K7's theorems for rows of step calls, in either manner.
-- * user_calls_leave: theorem 1. From user state, before the first step that takes an exception or halts, T, S, mask, SSP and every byte outside the
--   window stay as they were.
-- * alike_calls: theorem 2. Two machines that agree on all slots but SSP, lo, hi, the bytes of memory and ROM in the window, the lengths of both,
--   requests, journal length and mark give the same answers (numbers, events, marks, clocks), write the same records and stay alike up to there,
--   where neither drops records.
-- * same_vector: there they take the same exception first, unless one of them halts.
-- * same_number: a call is refused on both with the same number, or on neither.
-- * alike_keeping, vector_keeping: the same in the manner Keeping, which drops no record (keeping_drops_none).
-- Uses: bits, bus, bank, numbers, record, oldest, step, calls.  Source: [K7], [K5], [K10].
use Prim.Native.Nat.{ℕ, ◌+◌, ◌-◌, ◌<◌, ◌≤◌}
use native.Mathlib.Omega.{arith}
use mathlib.Core.Path.{◌≡◌, refl, sym, ap, ◌∙◌, subst, subst₂}
use mathlib.Core.Bool.{Bool, true, false}
use mathlib.Core.List.{List, [], ◌∷◌}
use lib.ListN.{length, take}
use lib.Seq.{slice, slice_empty, drop_at, length-take-le}
use lib.Dec.{ltb, eqb}
use borrow.Author.Tests.{eqb-true, eqb-false}
use Rattle.codes.specs.Codes.{RomStart, NoEvent, HaltEvent}
use Rattle.bits.specs.Bits.{pick}
use Rattle.bus.specs.declared.Window.{Window}
use Rattle.bus.specs.Bus.{Board}
use Rattle.bank.specs.Bank.{sr_of, supervisor}
use Rattle.numbers.specs.Number.{written}
use Rattle.numbers.proofs.WrittenLaws.{length_written, take_written}
use Rattle.record.specs.Limits.{longest_record}
use Rattle.step.specs.Steps.{one_step}
use Rattle.calls.specs.declared.Manner.{Manner}
use Rattle.calls.specs.declared.Manner.TheVariants.{Dropping, Keeping}
use Rattle.calls.specs.declared.StepAnswer.{StepAnswer}
use Rattle.calls.specs.Calls.{first_tests, no_room, torn_way, StepCall, step_tests, step_number, step_taken, step_with_room}
use Rattle.calls.specs.History.{Machine, Request, act, one_more}
use Rattle.calls.proofs.ValidLaws.{record_room}
use Rattle.calls.proofs.RefusalLaws.{torn_way_when, step_call_number, tests_stopped, step_inv}
use Rattle.calls.proofs.ActLaws.{lent_after, act_step_refused, seen_at, act_step, step_number_zero, step_valid}
use Rattle.fence.specs.Fence.{Same, Left}
use Rattle.fence.specs.Rows.{Fit, AlikeMachines, LeftMachine, answer_to, next, record_left, after_row, AllCalm, NoneDropped, SameRow}
use Rattle.fence.proofs.OneLaws.{left_none, same_sr, same_mode, user_too, same_event, same_clocks, alike_next, same_step_vector}
use Rattle.fence.proofs.AcceptLaws.{number_of, one, record_of_it, refused_answer, accepted_call, event_told, room_free, plain_told, plain_next}
use Rattle.fence.proofs.RecordLaws.{left_next, same_record}

-- ---- one call: what is kept of a machine
pub board_stays : (w : Manner) (q : Request) (x : Machine) → (next w q x).board ≡ x.board
unfolding act
board_stays w q x = refl

module _ (w : Manner) (q : Request) (x : Machine) (f : Fit x) where
  pub fit_next : Fit (next w q x)
  fit_next = go (eqb (answer_to w q x).number 0) refl
    where
      go : (b : Bool) → eqb (answer_to w q x).number 0 ≡ b → Fit (next w q x)
      go true h =
          let z = eqb-true (answer_to w q x).number 0 h in
          subst Fit (sym (act_step w q x z)) (lent_after q (seen_at w x) (step_valid w q.level q.vector x f z))
      go false h = subst Fit (sym (act_step_refused w q.level q.vector x (eqb-false (answer_to w q x).number 0 h))) f

  left_by : (b : Bool) → eqb (answer_to w q x).number 0 ≡ b → supervisor (sr_of x.slots) ≡ false → (answer_to w q x).event ≡ NoEvent
      → LeftMachine x (next w q x)
  unfolding one_more
  left_by true h u e =
      let z = eqb-true (answer_to w q x).number 0 h in
      subst (LeftMachine x) (sym (act_step w q x z))
      (left_next x.board x.slots x.memory (step_valid w q.level q.vector x f z) u q.level q.vector
      (sym (event_told w q x z) ∙ e))
  left_by false h u e =
      subst (LeftMachine x) (sym (act_step_refused w q.level q.vector x (eqb-false (answer_to w q x).number 0 h)))
      (left_none x.board.window x.slots x.memory)

  left_call : supervisor (sr_of x.slots) ≡ false → (answer_to w q x).event ≡ NoEvent → LeftMachine x (next w q x)
  left_call u e = left_by (eqb (answer_to w q x).number 0) refl u e

-- ---- theorem 1
module _ (win : Window) (s m t n o p : List ℕ) (a : Left win s m t n) where
  left_then : Left win t n o p → Left win s m o p
  left_then b =
      record {
        system =
            record {
              trace = b.system.trace ∙ a.system.trace;
              super = b.system.super ∙ a.system.super;
              mask = b.system.mask ∙ a.system.mask;
            };
        ssp = b.ssp ∙ a.ssp;
        long = b.long ∙ a.long;
        outside = λ i out. b.outside i out ∙ a.outside i out;
      }

  pub still_user : supervisor (sr_of s) ≡ false → supervisor (sr_of t) ≡ false
  still_user u = ap (λ (k : ℕ). eqb k 1) a.system.super ∙ u

pub user_calls_leave : (w : Manner) (qs : List Request) (x : Machine) → Fit x → supervisor (sr_of x.slots) ≡ false → AllCalm w qs x
    → LeftMachine x (after_row w qs x)
user_calls_leave w [] x f u c = left_none x.board.window x.slots x.memory
user_calls_leave w (q ∷ qs) x f u c =
    let y = next w q x in
    let z = after_row w qs y in
    let a = left_call w q x f u c.0 in
    let b = user_calls_leave w qs y (fit_next w q x f) (still_user x.board.window x.slots x.memory y.slots y.memory [] [] a u) c.1 in
    left_then x.board.window x.slots x.memory y.slots y.memory z.slots z.memory a
    (subst (λ (board : Board). Left board.window y.slots y.memory z.slots z.memory) (board_stays w q x) b)

-- ---- refusals
abbrev tests : Manner → Request → Machine → ℕ → ℕ
tests w q x l = step_tests w x.board x.slots x.memory q.level x.journal x.mark l

module _ (x y : Machine) (h : AlikeMachines x y) where
  same_room : (w : Manner) → no_room w x.journal x.mark ≡ no_room w y.journal y.mark
  same_room Dropping = ap (λ (n : ℕ). ltb n longest_record) h.journal
  same_room Keeping = cc (h.journal, h.mark)

  same_tests : (w : Manner) (q : Request) (l : ℕ) → tests w q x l ≡ tests w q y l
  unfolding step_tests first_tests
  same_tests w q l =
      let sr = same_sr x.board y.board x.slots y.slots x.memory y.memory h.states in
      let mode = same_mode x.board y.board x.slots y.slots x.memory y.memory h.states in
      cc (sr, mode, same_room w, h.states.memory.long, h.states.boards.window, h.states.boards.rom.long, h.journal, h.mark)

-- two memories are the same either way round
same_back : (win win₁ : Window) (start : ℕ) (m n : List ℕ) → win ≡ win₁ → Same win start m n → Same win₁ start n m
same_back win win₁ start m n e h = record { long = sym h.long; bytes = λ i l u. sym (h.bytes i (rw e l) (rw e u)) }

-- two machines are alike either way round
pub alike_back : (x y : Machine) → AlikeMachines x y → AlikeMachines y x
alike_back x y h =
    let a = h.states in
    record {
      states =
          record {
            user = user_too x.board y.board x.slots y.slots x.memory y.memory a;
            slots = sym a.slots;
            boards =
                record {
                  window = sym a.boards.window;
                  rom = same_back x.board.window y.board.window RomStart x.board.rom y.board.rom a.boards.window a.boards.rom;
                };
            memory = same_back x.board.window y.board.window 0 x.memory y.memory a.boards.window a.memory;
          };
      journal = sym h.journal;
      mark = sym h.mark;
    }

-- a journal that is torn is short of room
torn_short : (w : Manner) (len : ℕ) (j : List ℕ) (mark : ℕ) → torn_way w len j mark ≡ true → length j - mark < longest_record
torn_short Dropping len j mark t = (torn_way_when len j mark t).0
torn_short Keeping len j mark t = absurd (let z : ◌≡◌ {A = ℕ} 0 1 = cc (t) in omega (arith, z))

module _ (w : Manner) (q : Request) where
  abbrev torn_of : Machine → Bool
  torn_of x = torn_way w (length x.memory) x.journal x.mark

  told : (x : Machine) → (answer_to w q x).number ≡ number_of w q x
  told x = step_call_number w x.board x.slots x.memory q.level x.journal x.mark q.vector

  number_by : (x : Machine) (b : Bool) → torn_of x ≡ b
      → number_of w q x ≡ tests w q x (pick b 8 0)
  unfolding step_number
  number_by x b e = cc

  -- torn in one alone: then a test before it gave the number, or the other dropped records
  number_apart : (x y : Machine) → AlikeMachines x y → (answer_to w q y).dropped ≡ 0 → torn_of x ≡ true → torn_of y ≡ false
      → number_of w q x ≡ number_of w q y
  number_apart x y h d a b = go (eqb (tests w q x 0) 0) refl
    where
      go : (c : Bool) → eqb (tests w q x 0) 0 ≡ c → number_of w q x ≡ number_of w q y
      go true k =
          let z : number_of w q y ≡ 0 = number_by y false b ∙ sym (same_tests x y h w q 0) ∙ eqb-true (tests w q x 0) 0 k in
          let f = room_free w q y (told y ∙ z) d in
          absurd (omega (arith, f, torn_short w (length x.memory) x.journal x.mark a, h.journal, h.mark))
      go false k =
          number_by x true a
          ∙ tests_stopped w x.board x.slots x.memory q.level x.journal x.mark 8 (eqb-false (tests w q x 0) 0 k)
          ∙ same_tests x y h w q 0 ∙ sym (number_by y false b)

  pub same_number : (x y : Machine) → AlikeMachines x y → (answer_to w q x).dropped ≡ 0 → (answer_to w q y).dropped ≡ 0
      → number_of w q x ≡ number_of w q y
  same_number x y h d e = go (torn_of x) (torn_of y) refl refl
    where
      go : (b c : Bool) → torn_of x ≡ b → torn_of y ≡ c → number_of w q x ≡ number_of w q y
      go true true a b = number_by x true a ∙ same_tests x y h w q 8 ∙ sym (number_by y true b)
      go false false a b = number_by x false a ∙ same_tests x y h w q 0 ∙ sym (number_by y false b)
      go true false a b = number_apart x y h e a b
      go false true a b = sym (number_apart y x (alike_back x y h) d b a)

  -- and so is what the answers tell
  pub same_told : (x y : Machine) → AlikeMachines x y → (answer_to w q x).dropped ≡ 0 → (answer_to w q y).dropped ≡ 0
      → (answer_to w q x).number ≡ (answer_to w q y).number
  same_told x y h d e = told x ∙ same_number x y h d e ∙ sym (told y)

-- ---- one call on two machines that are alike
-- what a step that drops nothing leaves of the journal
module _ (w : Manner) (q : Request) (x : Machine) (f : Fit x) (h : (answer_to w q x).number ≡ 0) (e : (answer_to w q x).dropped ≡ 0) where
  inside : x.mark ≤ length x.journal
  inside = (step_inv w x.board x.slots x.memory q.level x.journal x.mark (step_number_zero w q.level q.vector x h)).3

  roomy : x.mark + length (record_of_it w q x) ≤ length x.journal
  roomy =
      let r = record_room x.board x.slots x.memory q.level q.vector (step_valid w q.level q.vector x f h) in
      omega (arith, r, room_free w q x h e, inside)

  record_is : record_left w q x ≡ record_of_it w q x
  record_is =
      let b = record_of_it w q x in
      ap (λ (z : Machine). slice x.mark z.mark z.journal) (plain_next w q x h e)
      ∙ ap (lib.ListN.drop x.mark) (take_written x.journal x.mark b roomy)
      ∙ drop_at (take x.mark x.journal) b x.mark (length-take-le x.mark x.journal inside)

record_none : (w : Manner) (q : Request) (x : Machine) → ((answer_to w q x).number ≡ 0 → ⊥) → record_left w q x ≡ []
record_none w q x h =
    ap (λ (z : Machine). slice x.mark z.mark z.journal) (act_step_refused w q.level q.vector x h) ∙ slice_empty x.mark x.journal

pub record SameCall (w : Manner) (q : Request) (x y : Machine) : Type 0 where
  pub answer : answer_to w q x ≡ answer_to w q y
  pub written : record_left w q x ≡ record_left w q y
  pub alike : AlikeMachines (next w q x) (next w q y)

module _ (w : Manner) (q : Request) (x y : Machine) where
  module _ (h : AlikeMachines x y) (fx : Fit x) (fy : Fit y) (e : (answer_to w q x).event ≡ NoEvent) (dx : (answer_to w q x).dropped ≡ 0)
      (dy : (answer_to w q y).dropped ≡ 0) where
    told_too : (answer_to w q x).number ≡ (answer_to w q y).number
    told_too = same_told w q x y h dx dy

    same_by : (b : Bool) → eqb (answer_to w q x).number 0 ≡ b → SameCall w q x y
    same_by true g =
        let k = eqb-true (answer_to w q x).number 0 g in
        let l = sym told_too ∙ k in
        let b = x.board in
        let c = y.board in
        let s = x.slots in
        let t = y.slots in
        let m = x.memory in
        let n = y.memory in
        let a = h.states in
        let quiet = sym (event_told w q x k) ∙ e in
        let quiet_too = same_event b c s t m n a q.level q.vector quiet in
        let clocks = same_clocks b c s t m n a q.level q.vector quiet in
        let vx = step_valid w q.level q.vector x fx k in
        let vy = step_valid w q.level q.vector y fy l in
        let r = same_record b c s t m n vx vy a q.level q.vector quiet in
        record {
          answer = cc (plain_told w q x k dx, plain_told w q y l dy, quiet, quiet_too, clocks, r, h.mark);
          written = record_is w q x fx k dx ∙ r ∙ sym (record_is w q y fy l dy);
          alike =
              subst₂ AlikeMachines (sym (plain_next w q x k dx)) (sym (plain_next w q y l dy))
              (record {
                states = alike_next b c s t m n a q.level q.vector quiet;
                journal =
                    length_written x.journal x.mark (record_of_it w q x) (roomy w q x fx k dx)
                    ∙ h.journal
                    ∙ sym (length_written y.journal y.mark (record_of_it w q y) (roomy w q y fy l dy));
                mark = cc (r, h.mark);
              });
        }
    same_by false g =
        let k = eqb-false (answer_to w q x).number 0 g in
        let l : (answer_to w q y).number ≡ 0 → ⊥ = λ z. k (told_too ∙ z) in
        record {
          answer = cc (refused_answer w q x k, refused_answer w q y l, told_too, h.mark);
          written = record_none w q x k ∙ sym (record_none w q y l);
          alike =
              subst₂ AlikeMachines (sym (act_step_refused w q.level q.vector x k)) (sym (act_step_refused w q.level q.vector y l)) h;
        }

pub same_call : (w : Manner) (q : Request) (x y : Machine) → AlikeMachines x y → Fit x → Fit y → (answer_to w q x).event ≡ NoEvent
    → (answer_to w q x).dropped ≡ 0 → (answer_to w q y).dropped ≡ 0 → SameCall w q x y
same_call w q x y h fx fy e dx dy = same_by w q x y h fx fy e dx dy (eqb (answer_to w q x).number 0) refl

-- ---- theorem 2
pub alike_calls : (w : Manner) (qs : List Request) (x y : Machine) → AlikeMachines x y → Fit x → Fit y → AllCalm w qs x
    → NoneDropped w qs x → NoneDropped w qs y → SameRow w qs x y
alike_calls w [] x y h fx fy c dx dy = record { answer = refl; written = refl; calm = tt; alike = h }
alike_calls w (q ∷ qs) x y h fx fy c dx dy =
    let s = same_call w q x y h fx fy c.0 dx.0 dy.0 in
    let r = alike_calls w qs (next w q x) (next w q y) s.alike (fit_next w q x fx) (fit_next w q y fy) c.1 dx.1 dy.1 in
    record {
      answer = cc (s.answer, r.answer);
      written = cc (s.written, r.written);
      calm = (ap (λ (a : StepAnswer). a.event) (sym s.answer) ∙ c.0, r.calm);
      alike = r.alike;
    }

-- the vector of the step that is not calm
pub same_vector : (w : Manner) (q : Request) (x y : Machine) → AlikeMachines x y → (answer_to w q x).dropped ≡ 0 → (answer_to w q y).dropped ≡ 0
    → ((answer_to w q x).event ≡ HaltEvent → ⊥) → ((answer_to w q y).event ≡ HaltEvent → ⊥) → (answer_to w q x).event ≡ (answer_to w q y).event
same_vector w q x y h dx dy = go (eqb (answer_to w q x).number 0) refl
  where
    go : (b : Bool) → eqb (answer_to w q x).number 0 ≡ b → ((answer_to w q x).event ≡ HaltEvent → ⊥) → ((answer_to w q y).event ≡ HaltEvent → ⊥)
        → (answer_to w q x).event ≡ (answer_to w q y).event
    go true c p r =
        let k = eqb-true (answer_to w q x).number 0 c in
        let l = sym (same_told w q x y h dx dy) ∙ k in
        event_told w q x k
        ∙ same_step_vector x.board y.board x.slots y.slots x.memory y.memory h.states q.level q.vector
        (λ e. p (event_told w q x k ∙ e)) (λ e. r (event_told w q y l ∙ e))
        ∙ sym (event_told w q y l)
    go false c p r =
        let k = eqb-false (answer_to w q x).number 0 c in
        let l : (answer_to w q y).number ≡ 0 → ⊥ = λ z. k (same_told w q x y h dx dy ∙ z) in
        ap (λ (a : StepAnswer). a.event) (refused_answer w q x k) ∙ sym (ap (λ (a : StepAnswer). a.event) (refused_answer w q y l))

-- ---- the manner that keeps all records
module _ (q : Request) (x : Machine) where
  pub keeping_drops : (answer_to Keeping q x).dropped ≡ 0
  unfolding step_with_room step_taken
  keeping_drops = go (eqb (answer_to Keeping q x).number 0) refl
    where
      go : (b : Bool) → eqb (answer_to Keeping q x).number 0 ≡ b → (answer_to Keeping q x).dropped ≡ 0
      go true h = ap (λ (c : StepCall). c.a.dropped) (accepted_call Keeping q x (eqb-true (answer_to Keeping q x).number 0 h))
      go false h = ap (λ (a : StepAnswer). a.dropped) (refused_answer Keeping q x (eqb-false (answer_to Keeping q x).number 0 h))

pub keeping_drops_none : (qs : List Request) (x : Machine) → NoneDropped Keeping qs x
keeping_drops_none [] x = tt
keeping_drops_none (q ∷ qs) x = (keeping_drops q x, keeping_drops_none qs (next Keeping q x))

-- theorem 2 and the vector in that manner, with no word of records dropped: calm calls, and then one more
pub alike_keeping : (qs : List Request) (x y : Machine) → AlikeMachines x y → Fit x → Fit y → AllCalm Keeping qs x → SameRow Keeping qs x y
alike_keeping qs x y h fx fy c = alike_calls Keeping qs x y h fx fy c (keeping_drops_none qs x) (keeping_drops_none qs y)

pub vector_keeping : (qs : List Request) (q : Request) (x y : Machine) → AlikeMachines x y → Fit x → Fit y → AllCalm Keeping qs x
    → ((answer_to Keeping q (after_row Keeping qs x)).event ≡ HaltEvent → ⊥) → ((answer_to Keeping q (after_row Keeping qs y)).event ≡ HaltEvent → ⊥)
    → (answer_to Keeping q (after_row Keeping qs x)).event ≡ (answer_to Keeping q (after_row Keeping qs y)).event
vector_keeping qs q x y h fx fy c =
    let u = after_row Keeping qs x in
    let v = after_row Keeping qs y in
    same_vector Keeping q u v (alike_keeping qs x y h fx fy c).alike (keeping_drops q u) (keeping_drops q v)
