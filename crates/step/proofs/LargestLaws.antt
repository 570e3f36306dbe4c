-- LargestLaws.antt - no step takes more than 204 clocks: 170 of an instruction and 34 of a trace.
-- own_bound, own_small; largest_step: the theorem. That 204 is reached is the last row of clock_rows_hold, of crate examples.
-- Uses: bits, bus, clocks, bank, exception, execute.
use Prim.Native.Nat.{ℕ, ◌%◌, ◌/◌, ◌≤◌, ◌<◌}
use native.Mathlib.Omega.{arith}
use mathlib.Core.Path.{◌≡◌}
use mathlib.Core.Bool.{Bool, ◌&&◌, ◌||◌, not}
use mathlib.Core.List.{List}
use lib.Dec.{ltb, eqb}
use Rattle.bits.proofs.BitsLaws.{pick_cases}
use Rattle.bus.specs.declared.Flow.{Flow}
use Rattle.bus.specs.Bus.{View, next_word}
use Rattle.bus.specs.Bus.{Board}
use Rattle.bank.specs.Bank.{pc_of, sr_of, mode_of, tracing, bank}
use Rattle.exception.specs.Exceptions.{fresh}
use Rattle.decode.specs.Rows.{kind_of, privileged}
use Rattle.clocks.specs.Clocks.{exception_clocks}
use Rattle.clocks.proofs.LargestLaws.{clocks_bound, exception_bound}
use Rattle.execute.specs.Dispatch.{user_clocks, own_clocks}
use Rattle.step.specs.declared.Tried.{Tried}
use Rattle.step.specs.Steps.{sight, attempt, conclude, traced, trap_of, interrupt, trap_clocks, trace_clocks, ended_clocks, concluded_clocks}
use Rattle.step.specs.Steps.{instruction_clocks, interrupt_clocks, step_clocks, most_clocks}

own_bound : (r : List ℕ) (v : View) (op : ℕ) (f : Flow) → own_clocks r v op f ≤ 170
unfolding own_clocks user_clocks
own_bound r v op f =
    let b = clocks_bound (kind_of op) r v op f in
    pick_cases (λ n. n ≤ 170) (eqb (f.sr / 8192 % 2) 0) (pick_cases (λ n. n ≤ 170) (privileged (kind_of op)) (omega arith) b) b

-- of the code's number
pub own_small : (r : List ℕ) (v : View) (op n : ℕ) (f : Flow) → n ≡ own_clocks r v op f → n < 512
own_small r v op n f e = let b = own_bound r v op f in omega (arith, b, e)

attempt_bound : (r : List ℕ) (v : View) (f : Flow) → (attempt r v f).t.clocks ≤ 170
unfolding attempt
attempt_bound r v f = let w = next_word v f in own_bound r v w.value w.flow

trap_bound : (t : Tried) (event : ℕ) → t.clocks ≤ 170 → trap_clocks t event ≤ 170
unfolding trap_clocks
trap_bound t event h =
    let b = exception_bound (trap_of t.p) t.op in
    pick_cases (λ n. n ≤ 170) (eqb (trap_of t.p) 0) h (pick_cases (λ n. n ≤ 170) (eqb event 257) (omega arith) (omega arith))

trace_line : (op : ℕ) → exception_clocks 9 op ≤ 34
unfolding exception_clocks
trace_line op = omega arith

trace_bound : (t : Tried) (trace : Bool) (mode : ℕ) → trace_clocks t trace mode ≤ 34
unfolding trace_clocks
trace_bound t trace mode =
    pick_cases (λ n. n ≤ 34) (eqb (traced (trap_of t.p) (trace && not (eqb mode 2)) 0) 0) (omega arith) (trace_line t.op)

ended_bound : (t : Tried) (trace : Bool) (event mode : ℕ) → t.clocks ≤ 170 → ended_clocks t trace event mode ≤ 204
unfolding ended_clocks
ended_bound t trace event mode h =
    let a = trap_bound t event h in
    let b = trace_bound t trace mode in
    let c = exception_bound (t.p.flow.bad % 4) t.op in
    pick_cases (λ n. n ≤ 204) (eqb event 0) (omega arith)
    (pick_cases (λ n. n ≤ 204) (eqb t.p.flow.bad 0) (omega arith) (pick_cases (λ n. n ≤ 204) (eqb event 257) (omega arith) (omega arith)))

module _ (board : Board) (s m : List ℕ) where
  instruction_bound : instruction_clocks board s m ≤ 204
  unfolding instruction_clocks concluded_clocks
  instruction_bound =
      let f = fresh (pc_of s) (sr_of s) in
      let a = attempt (bank s) (sight board s m) f in
      let o = conclude s m a.r a.t in
      ended_bound a.t (tracing (sr_of s)) o.event (mode_of o.s) (attempt_bound (bank s) (sight board s m) f)

  interrupt_bound : (event : ℕ) → interrupt_clocks event ≤ 204
  unfolding interrupt_clocks
  interrupt_bound event = pick_cases (λ n. n ≤ 204) (eqb event 257) (omega arith) (omega arith)

  -- the largest value of a step  [K2]
  pub largest_step : (level vector : ℕ) → step_clocks board s m level vector ≤ most_clocks
  unfolding step_clocks
  largest_step level vector =
      pick_cases (λ n. n ≤ 204) (eqb level 7 || ltb (sr_of s / 256 % 8) level) (interrupt_bound (interrupt s m level vector).event)
      (pick_cases (λ n. n ≤ 204) (eqb (mode_of s) 0) instruction_bound (omega arith))
