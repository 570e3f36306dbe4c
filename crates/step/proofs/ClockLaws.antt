-- ClockLaws.antt - the clocks of a step: one law for each return of the functions that tell them.
-- trap-..; trace-..; ended-..; concluded_is, instruction_clocks_is; interrupt_halts, interrupt_counts; clocks_interrupted, -instruction, -stopped.
-- Uses: bits, bus, plan, clocks, bank, exception.
use Prim.Native.Nat.{ℕ, ◌+◌, ◌%◌, ◌/◌}
use mathlib.Core.Path.{◌≡◌, ap}
use mathlib.Core.Bool.{Bool, true, false, ◌&&◌, ◌||◌, not}
use mathlib.Core.List.{List}
use lib.Dec.{ltb, eqb}
use Rattle.bus.specs.declared.Flow.{Flow}
use Rattle.bus.specs.Bus.{Board}
use Rattle.bus.specs.Bus.{seen_by}
use Rattle.bank.specs.Bank.{pc_of, sr_of, mode_of, tracing, bank, supervisor}
use Rattle.exception.specs.Exceptions.{fresh}
use Rattle.clocks.specs.Clocks.{exception_clocks}
use Rattle.step.specs.declared.Tried.{Tried}
use Rattle.step.specs.Steps.{Attempt, attempt, trap_of, traced, conclude, interrupt, trap_clocks, trace_clocks, ended_clocks}
use Rattle.step.specs.Steps.{begun, concluded_clocks, instruction_clocks, interrupt_clocks, step_clocks}

-- of an instruction that met no fault, with its trap's vector
module _ (t : Tried) (event vec n : ℕ) (e : vec ≡ trap_of t.p) where
  pub trap_none : eqb vec 0 ≡ true → n ≡ t.clocks → n ≡ trap_clocks t event
  unfolding trap_clocks
  trap_none h d = cc

  module _ (h : eqb vec 0 ≡ false) where
    pub trap_halts : eqb event 257 ≡ true → n ≡ 0 → n ≡ trap_clocks t event
    unfolding trap_clocks
    trap_halts k d = cc

    pub trap_counts : eqb event 257 ≡ false → n ≡ exception_clocks vec t.op → n ≡ trap_clocks t event
    unfolding trap_clocks
    trap_counts k d = cc

-- of the trace after it
module _ (t : Tried) (trace : Bool) (mode vec x n : ℕ) (e : vec ≡ trap_of t.p) (d : x ≡ traced vec (trace && not (eqb mode 2)) 0) where
  pub trace_none : eqb x 0 ≡ true → n ≡ 0 → n ≡ trace_clocks t trace mode
  unfolding trace_clocks
  trace_none h g = cc

  pub trace_counts : eqb x 0 ≡ false → n ≡ exception_clocks 9 t.op → n ≡ trace_clocks t trace mode
  unfolding trace_clocks
  trace_counts h g = cc

module _ (t : Tried) (trace : Bool) (event mode n : ℕ) where
  pub ended_quiet : eqb event 0 ≡ true → n ≡ t.clocks → n ≡ ended_clocks t trace event mode
  unfolding ended_clocks
  ended_quiet h e = cc

  module _ (h : eqb event 0 ≡ false) where
    pub ended_fine : (a b : ℕ) → eqb t.p.flow.bad 0 ≡ true → a ≡ trap_clocks t event → b ≡ trace_clocks t trace mode → n ≡ a + b
        → n ≡ ended_clocks t trace event mode
    unfolding ended_clocks
    ended_fine a b k e d g = cc

    module _ (k : eqb t.p.flow.bad 0 ≡ false) where
      pub ended_halts : eqb event 257 ≡ true → n ≡ 0 → n ≡ ended_clocks t trace event mode
      unfolding ended_clocks
      ended_halts u g = cc

      pub ended_fault : eqb event 257 ≡ false → n ≡ exception_clocks (t.p.flow.bad % 4) t.op → n ≡ ended_clocks t trace event mode
      unfolding ended_clocks
      ended_fault u g = cc

-- s₁ are the slots at the end
pub concluded_is : (s m r s₁ : List ℕ) (t : Tried) (b : Bool) (x n : ℕ) → b ≡ tracing (sr_of s) → x ≡ (conclude s m r t).event → s₁ ≡ (conclude s m r t).s
    → n ≡ ended_clocks t b x (mode_of s₁) → n ≡ concluded_clocks s m r t
unfolding concluded_clocks
concluded_is s m r s₁ t b x n e1 e2 e3 e4 = cc

-- s₁ is the second loan of the slots s
pub instruction_clocks_is : (board : Board) (s s₁ m r : List ℕ) (t : Tried) (n : ℕ) → s₁ ≡ s → record { r = r; t = t } ≡ begun board s m
    → n ≡ concluded_clocks s₁ m r t → n ≡ instruction_clocks board s m
unfolding instruction_clocks
instruction_clocks_is board s s₁ m r t n e d h = cc (ap (λ (a : Attempt). a.r) d, ap (λ (a : Attempt). a.t) d)

module _ (event : ℕ) where
  pub interrupt_halts : eqb event 257 ≡ true → 0 ≡ interrupt_clocks event
  unfolding interrupt_clocks
  interrupt_halts h = cc

  pub interrupt_counts : eqb event 257 ≡ false → 44 ≡ interrupt_clocks event
  unfolding interrupt_clocks
  interrupt_counts h = cc

module _ (board : Board) (s m : List ℕ) (level vector n : ℕ) where
  pub clocks_interrupted : (x : ℕ) → (eqb level 7 || ltb (sr_of s / 256 % 8) level) ≡ true → x ≡ (interrupt s m level vector).event
      → n ≡ interrupt_clocks x → n ≡ step_clocks board s m level vector
  unfolding step_clocks
  clocks_interrupted x h e d = cc

  module _ (h : (eqb level 7 || ltb (sr_of s / 256 % 8) level) ≡ false) where
    pub clocks_instruction : eqb (mode_of s) 0 ≡ true → n ≡ instruction_clocks board s m → n ≡ step_clocks board s m level vector
    unfolding step_clocks
    clocks_instruction k e = cc

    pub clocks_stopped : eqb (mode_of s) 0 ≡ false → n ≡ 4 → n ≡ step_clocks board s m level vector
    unfolding step_clocks
    clocks_stopped k e = cc
