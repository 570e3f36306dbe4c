-- SlotsLaws.antt - twenty slots stay twenty in every call, whatever they hold and whatever it is lent.
-- * twenty_of_act: the law, for a step, a run and an undo.
-- Source: [01 State], [01 Calls and what they give back].
use Prim.Native.Nat.{ℕ, zero, suc, ◌+◌}
use mathlib.Core.Path.{◌≡◌, refl, ◌∙◌}
use mathlib.Core.List.{List}
use lib.ListN.{length}
use lib.Dec.{eqb}
use Rattle.bits.proofs.BitsLaws.{pick_cases}
use Rattle.bus.specs.Bus.{Board}
use Rattle.bank.specs.Bank.{pc_of, mode_of}
use Rattle.record.specs.Limits.{slot_limit}
use Rattle.record.proofs.KeptLaws.{length_restore}
use Rattle.step.proofs.SlotsLaws.{twenty_of_one_step}
use Rattle.undo.specs.Undo.{Record, found, none, well_formed, undo_of}
use Rattle.calls.specs.declared.Manner.{Manner}
use Rattle.calls.specs.Calls.{StepCall, RunCall, UndoCall, no_room, torn_way, step_number, step_taken, step_with_room, step_call}
use Rattle.calls.specs.Calls.{run_number, running, run_call, undo_number, undo_call}
use Rattle.calls.specs.History.{Machine, Call, step_of, run_of, undo_once, act}

module _ (board : Board) (s m : List ℕ) (h : length s ≡ slot_limit) where
  twenty_of_step : (w : Manner) (level vector : ℕ) (j : List ℕ) (mark : ℕ) → length (step_call w board s m level vector j mark).s ≡ slot_limit
  unfolding step_call step_with_room step_taken
  twenty_of_step w level vector j mark =
      pick_cases (λ (c : StepCall). length c.s ≡ slot_limit) (eqb (step_number w board s m level j mark) 0) (twenty_of_one_step board s m h level vector) h

  twenty_of_undo : (j : List ℕ) (mark : ℕ) → length (undo_call board s m j mark).s ≡ slot_limit
  unfolding undo_call undo_of
  twenty_of_undo j mark =
      pick_cases (λ (c : UndoCall). length c.s ≡ slot_limit) (eqb (undo_number board s m j mark) 0) (restored (well_formed s m j mark) refl) h
    where
      restored : (w : Record) → well_formed s m j mark ≡ w → length (undo_of s m j mark).slots ≡ slot_limit
      restored none e = rw e h
      restored (found ss bs r) e = rw e (length_restore ss s ∙ h)

abbrev TwentyRun : RunCall → Type 0
TwentyRun c = length c.s ≡ slot_limit

twenty_of_running : (w : Manner) (board : Board) (k n c v u stop : ℕ) (s m j : List ℕ) (mark : ℕ) → length s ≡ slot_limit
    → length (running w board k n c v u stop s m j mark).s ≡ slot_limit
unfolding running step_with_room step_taken
twenty_of_running w board zero n c v u stop s m j mark h = h
twenty_of_running w board (suc k) n c v u stop s m j mark h =
    pick_cases TwentyRun (eqb (mode_of s) 2) h
    (pick_cases TwentyRun (eqb (mode_of s) 1) h
    (pick_cases TwentyRun (no_room w j mark) h
    (pick_cases TwentyRun (torn_way w (length m) j mark) h
    (pick_cases TwentyRun (eqb (pc_of s) stop) h (twenty_of_running w board k (n + 1) _ _ _ stop _ _ _ _ (twenty_of_one_step board s m h 0 0))))))

twenty_of_run : (w : Manner) (board : Board) (s m : List ℕ) (budget stop : ℕ) (j : List ℕ) (mark : ℕ) → length s ≡ slot_limit
    → length (run_call w board s m budget stop j mark).s ≡ slot_limit
unfolding run_call
twenty_of_run w board s m budget stop j mark h =
    pick_cases TwentyRun (eqb (run_number board s m budget j mark) 0) (twenty_of_running w board budget 0 0 0 0 stop s m j mark h) h

pub twenty_of_act : (w : Manner) (c : Call) (x : Machine) → length x.slots ≡ slot_limit → length (act w c x).slots ≡ slot_limit
unfolding act
twenty_of_act w (step_of level vector) x h = twenty_of_step x.board x.slots x.memory h w level vector x.journal x.mark
twenty_of_act w (run_of budget stop) x h = twenty_of_run w x.board x.slots x.memory budget stop x.journal x.mark h
twenty_of_act w undo_once x h = twenty_of_undo x.board x.slots x.memory h x.journal x.mark
