-- VectorLaws.antt - an odd address in vector 2 or 3, as it stands once the frame is written, halts whoever reads it; every other handler is gone to.
-- odd_vector_halts and other_vector_taken: of an exception; odd_interrupt_halts: of a step that an interrupt takes; odd_fault_halts: of a fault.
-- Uses: bits, bus, bank, frames, exception, step.
use Prim.Native.Nat.{ℕ, ◌%◌, ◌/◌}
use mathlib.Core.Path.{◌≡◌, refl, sym, ◌∙◌}
use mathlib.Core.Bool.{Bool, true, false, ◌&&◌, ◌||◌}
use mathlib.Core.List.{List}
use lib.Dec.{ltb, eqb}
use borrow.Author.Tests.{eq-eqb}
use Rattle.codes.specs.Codes.{Mask, TopLevel, event_of}
use Rattle.bits.specs.Bits.{plus, minus}
use Rattle.bus.specs.Bus.{Board}
use Rattle.bus.specs.Bus.{View, all_of, fault_vector}
use Rattle.bank.specs.Bank.{ssp_of, pc_of, sr_of}
use Rattle.frames.specs.Frames.{small_frame, big_frame}
use Rattle.exception.specs.Exceptions.{halted, handler, of_fault, can_enter, enter, small_room, small_ready, exception, big_room, big_ready, fault}
use Rattle.step.specs.Steps.{interrupt_sr, interrupt, one_step}
use Rattle.step.proofs.StepLaws.{step_interrupted}

not_entered : (b : Bool) (v : View) (vec : ℕ) → of_fault vec ≡ true → handler v vec % 2 ≡ 1 → (b && can_enter v vec) ≡ false
unfolding can_enter
not_entered true v vec e h = let k = eq-eqb (handler v vec % 2) 1 h in cc
not_entered false v vec e h = refl

-- framed: memory with the frame of six bytes
module _ (s m : List ℕ) (vec : ℕ) where
  abbrev framed : List ℕ
  framed = small_frame m (minus (ssp_of s) 6) (sr_of s) (pc_of s)

  module _ (e : of_fault vec ≡ true) (h : handler (all_of framed) vec % 2 ≡ 1) where
    pub odd_vector_halts : (sr : ℕ) → exception s m vec sr ≡ halted s m
    unfolding exception small_ready
    odd_vector_halts sr = let k = not_entered (small_room (all_of m) (minus (ssp_of s) 6)) (all_of framed) vec e h in cc

    pub odd_interrupt_halts : (board : Board) (level : ℕ) → (eqb level TopLevel || ltb (sr_of s / Mask % 8) level) ≡ true
        → one_step board s m level vec ≡ halted s m
    unfolding interrupt
    odd_interrupt_halts board level t = sym (step_interrupted board s m level vec t) ∙ odd_vector_halts (interrupt_sr (sr_of s) level)

  pub other_vector_taken : (sr : ℕ) → of_fault vec ≡ false → small_room (all_of m) (minus (ssp_of s) 6) ≡ true
      → exception s m vec sr ≡ record { s = enter s (all_of framed) (minus (ssp_of s) 6) vec sr; m = framed; event = event_of (vec % 256) }
  unfolding exception small_ready can_enter
  other_vector_taken sr e h = cc

pub odd_fault_halts : (s m : List ℕ) (bad op : ℕ) → of_fault (fault_vector bad) ≡ true
    → handler (all_of (big_frame m (minus (ssp_of s) 14) bad op (sr_of s) (plus (pc_of s) 2))) (fault_vector bad) % 2 ≡ 1 → fault s m bad op ≡ halted s m
unfolding fault big_ready
odd_fault_halts s m bad op e h =
    let n = big_frame m (minus (ssp_of s) 14) bad op (sr_of s) (plus (pc_of s) 2) in
    let k = not_entered (big_room (all_of m) (minus (ssp_of s) 14)) (all_of n) (fault_vector bad) e h in
    cc
