-- ClockLaws.antt - what the answers of the calls from C tell of clocks.
-- * ibz_step_clocks_fit, ibz_run_clocks_fit: a step's are at most those of the longest step, a run's at most so many for each of its steps and
--   at most 204,000,000: for every input. A refused call tells 0: ibz_step_refused and ibz_run_refused of RefusalLaws.
-- * ibz_run_clocks_sum: an accepted run tells the sum of the clocks of its steps, taken alone by the definition.
-- All of it in either manner.
-- Source: [K2], [K5].
use Prim.Native.Nat.{ℕ}
use mathlib.Core.Path.{◌≡◌, refl, ap, sym, ◌∙◌}
use mathlib.Core.Bool.{Bool, true, false}
use native.Mathlib.Omega.{arith}
use Rattle.calls.specs.declared.Manner.{Manner}
use Rattle.calls.specs.declared.RunAnswer.{RunAnswer}
use Rattle.calls.specs.History.{seen, clocks_alone}
use Rattle.calls.proofs.JournalLaws.{JournalLent}
use Rattle.calls.proofs.ClockLaws.{StepClocksFit, RunClocksFit, step_clocks_fit, run_clocks_fit, run_clocks_sum}
use Rattle.block_calls.specs.Calls.{block_fits, OnBlock, ibz_step, ibz_run}
use Rattle.block_calls.specs.History.{Box, ibz_stepping, ibz_running, machine_in}
use Rattle.block_calls.proofs.GoingBack.{Lends, lent_in, ibz_running_held}

-- ---- they fit, on any block
pub ibz_step_clocks_fit : (w : Manner) (level vector : ℕ) (x : Box) → StepClocksFit (ibz_stepping w level vector x).a
unfolding ibz_step
ibz_step_clocks_fit w level vector x = go (block_fits x.block) refl
  where
    go : (b : Bool) → block_fits x.block ≡ b → StepClocksFit (ibz_stepping w level vector x).a
    go true e = rw e (step_clocks_fit w level vector (machine_in x))
    go false e = rw e (omega arith)

pub ibz_run_clocks_fit : (w : Manner) (budget stop : ℕ) (x : Box) → RunClocksFit (ibz_running w budget stop x).a
unfolding ibz_run
ibz_run_clocks_fit w budget stop x = go (block_fits x.block) refl
  where
    go : (b : Bool) → block_fits x.block ≡ b → RunClocksFit (ibz_running w budget stop x).a
    go true e = rw e (run_clocks_fit w budget stop (machine_in x))
    go false e = rw e (omega arith)

-- ---- the sum, of what any C program lends
pub ibz_run_clocks_sum : (w : Manner) (budget stop : ℕ) (x : Box) → Lends x → JournalLent w x.journal → (ibz_running w budget stop x).a.number ≡ 0
    → (ibz_running w budget stop x).a.clocks ≡ clocks_alone (ibz_running w budget stop x).a.steps (seen (machine_in x))
ibz_run_clocks_sum w budget stop x l journal ok =
    let e = ibz_running_held w x l.fits budget stop in
    ap (λ (o : OnBlock RunAnswer). o.a.clocks) e
    ∙ run_clocks_sum w budget stop (machine_in x) (lent_in x l) journal (sym (ap (λ (o : OnBlock RunAnswer). o.a.number) e) ∙ ok)
    ∙ ap (λ (n : ℕ). clocks_alone n (seen (machine_in x))) (sym (ap (λ (o : OnBlock RunAnswer). o.a.steps) e))
