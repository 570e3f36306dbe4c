-- TakenLaws.antt - the laws that a step and its record cite: what is lent is valid, the log, the record's room, the step that was taken.
-- valid_lent, log_ready, log_done, record_fits, taken.
-- Uses: bus, record, touch, step, calls.
use Prim.Native.Nat.{ℕ, ◌+◌, ◌-◌, ◌≤◌, ◌<◌, ◌^◌}
use native.Mathlib.Omega.{arith}
use mathlib.Core.Path.{◌≡◌, ap, ◌∙◌}
use mathlib.Core.Bool.{true}
use mathlib.Core.List.{List}
use lib.ListN.{length, get_or}
use Rattle.bus.specs.Bus.{Board}
use Rattle.step.specs.Steps.{one_step, step_clocks}
use Rattle.numbers.specs.Number.{written}
use Rattle.numbers.proofs.WrittenLaws.{length_written}
use Rattle.record.specs.Limits.{slot_limit, byte_limit, longest_record}
use Rattle.record.specs.Change.{Ascending, ByteOlds, changes, restore, step_record}
use Rattle.record.proofs.SizeLaws.{valid_slots_from, valid_bytes_from}
use Rattle.touch.specs.Touch.{LogOk, Noted}
use Rattle.touch.proofs.TouchLaws.{log_start}
use Rattle.taken.specs.Going.{GoesOn}
use Rattle.calls.proofs.ValidLaws.{Valid, state_inv, fits_inv, state_fits_when, valid_after_step, record_room}
use Rattle.calls.specs.Calls.{memory_fits, state_fits, step_taken}

-- what is lent and fits is valid
pub valid_lent : (s m : List ℕ) → length s ≡ slot_limit → ((k : ℕ) → get_or s k 0 < 2 ^ 32) → ((k : ℕ) → get_or m k 0 < 256) → memory_fits m ≡ true → state_fits s ≡ true → Valid s m
valid_lent s m size words bytes fits ok =
    let q = state_inv s ok in
    record {
      slots = size;
      values = valid_slots_from s q.0 (omega (arith, q.1)) words;
      bytes = valid_bytes_from m bytes;
      fits = fits;
    }

-- a step that is taken: t, m₁, ev, ck are what it gives, l₁ the log of n entries
module _ (board : Board) (s m j l : List ℕ) (level vector mark : ℕ) (valid : Valid s m) (room : mark + longest_record ≤ length j) (t m₁ l₁ : List ℕ) (n ev ck : ℕ)
    (e : (t ≡ (one_step board s m level vector).s) × ((m₁ ≡ (one_step board s m level vector).m) × ((ev ≡ (one_step board s m level vector).event) × (Noted m l 0 byte_limit m₁ l₁ n × (ck ≡ step_clocks board s m level vector))))) where
  noted : Noted m l 0 byte_limit m₁ l₁ n
  noted = e.1.1.1.0

  abbrev logged : List ℕ
  logged = step_record s t (restore (changes l₁ n) m₁) m₁

  recorded : logged ≡ step_record s (one_step board s m level vector).s m (one_step board s m level vector).m
  recorded = rw (noted.start, e.0, e.1.0)

  short : length logged ≤ longest_record
  short = rw recorded (record_room board s m level vector valid)

  pub record_fits : mark + length logged ≤ length j
  record_fits = let h = short in omega arith

  module _ (j₁ : List ℕ) (r : ℕ) (q : (r ≡ mark + length logged) × (j₁ ≡ written j mark logged)) where
    goes_on : GoesOn t m m₁ j j₁ l l₁ r
    goes_on =
        let v = valid_after_step board s m level vector valid in
        let g : length j₁ ≡ length j = ap length q.1 ∙ length_written j mark logged record_fits in
        record {
          state = rw e.0 (state_fits_when (one_step board s m level vector).s (one_step board s m level vector).m v);
          memory = rw e.1.0 v.fits;
          same_memory = noted.same;
          same_journal = g;
          same_log = noted.long;
          inside = omega (arith, record_fits, q.0);
        }

    pub taken : let c = step_taken board s m level vector j mark in
        (t ≡ c.s) × ((m₁ ≡ c.m) × ((j₁ ≡ c.j) × ((record { number = 0; event = ev; mark = r; clocks = ck; moved = 0; dropped = 0 } ≡ c.a) × GoesOn t m m₁ j j₁ l l₁ r)))
    unfolding step_taken
    taken =
        let x = e.1.1.0 in
        let w = e.1.1.1.1 in
        let y = q.0 ∙ ap (λ (b : List ℕ). mark + length b) recorded in
        (e.0, (e.1.0, (q.1 ∙ ap (written j mark) recorded, (rw (x, y, w), goes_on))))

-- a log that has room for a step
pub log_ready : (m l : List ℕ) → memory_fits m ≡ true → byte_limit ≤ length l → LogOk m l 0 × (70 ≤ length l)
log_ready m l f h = (log_start m l (fits_inv m f).2, h)

-- what a log is after a step
pub log_done : (m l m₁ l₁ : List ℕ) (n : ℕ) → Noted m l 0 byte_limit m₁ l₁ n
    → (n ≤ length l₁) × (n < 2 ^ 32) × Ascending 0 (length m₁) (changes l₁ n) × ByteOlds (changes l₁ n)
log_done m l m₁ l₁ n noted = (noted.ok.room, (let h = noted.most in omega arith), noted.ok.order, noted.ok.olds)
