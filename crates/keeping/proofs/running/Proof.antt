use Prim.Native.Nat.{◌-◌}
use native.Mathlib.Omega.{arith}
use borrow.Author.Tests.{leb-false}
use Rattle.bus.specs.Bus.{board_of}
use Rattle.keeping.proofs.LoopLaws.{Going, going_start, going_again, going_requires, going_sum}
use Rattle.keeping.proofs.LoopLaws.{going_spent, going_halted, going_stopped, going_full, going_there}
use borrow.Author.Rules.{rules}
use Rattle.keeping.proofs.running.Statement.{statement}
use Rattle.keeping.proofs.running.Tie as tie

abbrev invariant_loop : tie.invariant-loop-win
invariant_loop slots₀ win memory₀ rom budget stop journal₀ mark log₀ n₀ c₀ m₀ slots memory journal log n c m =
    Going (board_of win rom) budget stop slots₀ memory₀ journal₀ mark log₀ slots memory journal m log n c

abbrev decreases_loop : tie.decreases-loop-win
decreases_loop slots₀ win memory₀ rom budget stop journal₀ mark log₀ n₀ c₀ m₀ slots memory journal log n c m = budget - n

loop_holds : tie.Need-loop-win-init invariant_loop decreases_loop
loop_holds c = let z = c.before.before.before.before in going_start _ _ _ _ _ _ _ _ z.requires.0 z.requires.1 z.requires.2 z.requires.3 z.requires.4

sub_short : tie.Need-overflow_sub-short invariant_loop decreases_loop
sub_short c = let i = c.before.before.before.before.before.loop-win.invariant in let h = i.inside in omega arith

-- dₖ: the point after the k-th test, which did not end the run
step_taken_requires : tie.Need-step_taken-a-requires invariant_loop decreases_loop
step_taken_requires c κs =
    let d₄ = c.before.before.before.before.before.before in
    let d₁ = d₄.before.before.before.before.before in
    going_requires d₁.before.loop-win.invariant d₄.if-short.false-raw

returns_3 : tie.Need-returns-then-stopped invariant_loop decreases_loop
returns_3 c =
    let d₂ = c.before.before in
    let d₁ = d₂.before.before in
    going_stopped d₁.before.loop-win.invariant d₁.if-spent.false-raw d₂.if-halted.false-raw c.if-stopped.true-raw

returns_4 : tie.Need-returns-then-short invariant_loop decreases_loop
returns_4 c =
    let d₃ = c.before in
    let d₂ = d₃.before.before in
    let d₁ = d₂.before.before in
    going_full d₁.before.loop-win.invariant d₁.if-spent.false-raw d₂.if-halted.false-raw d₃.if-stopped.false-raw c.if-short.true-raw

returns_5 : tie.Need-returns-then-there invariant_loop decreases_loop
returns_5 c =
    let d₄ = c.before.before in
    let d₃ = d₄.before in
    let d₂ = d₃.before.before in
    let d₁ = d₂.before.before in
    going_there d₁.before.loop-win.invariant d₁.if-spent.false-raw d₂.if-halted.false-raw d₃.if-stopped.false-raw d₄.if-short.false-raw c.if-there.true-raw

pub running_spec : {M : Type 1} → statement M
running_spec =
    tie.close
    (tie.spec
    invariant_loop
    decreases_loop
    loop_holds
    (λ c. search rules)
    (λ c. search rules)
    sub_short
    (λ c. search rules)
    step_taken_requires
    (λ c. omega (arith, leb-false))
    (λ c. record { fits = search going_sum })
    (λ c. omega (arith, leb-false))
    (λ c. search going_again)
    (λ c. search rules)
    (λ c. search rules)
    (λ c. search rules)
    (λ c. going_spent c.before.loop-win.invariant c.if-spent.true-raw)
    (λ c. search rules)
    (λ c. search rules)
    (λ c. search rules)
    (λ c. going_halted c.before.before.before.loop-win.invariant c.before.before.if-spent.false-raw c.if-halted.true-raw)
    (λ c. search rules)
    (λ c. search rules)
    (λ c. search rules)
    returns_3
    (λ c. search rules)
    (λ c. search rules)
    (λ c. search rules)
    returns_4
    (λ c. search rules)
    (λ c. search rules)
    (λ c. search rules)
    returns_5)
