use Rattle.execute.proofs.DispatchLaws.{dispatch_control, dispatch_integer, dispatch_logical, dispatch_movement, dispatch_refused}
use Rattle.execute.proofs.DispatchLaws.{dispatch_system}
use Rattle.execute.proofs.ClockLaws.{family_clocks, first_clocks}
use Rattle.std.proofs.Common.{arith, rules, ltb-false, ltb-true}
use Rattle.execute.proofs.dispatch.Statement.{statement}
use Rattle.execute.proofs.dispatch.Tie as tie

pub dispatch_spec : {M : Type 1} → statement M
dispatch_spec =
    tie.close (tie.spec
    (λ c κs. omega (arith, ltb-true)) (λ c. (search dispatch_refused, search first_clocks))
    (λ c. search rules) (λ c κs. omega (arith, ltb-true, ltb-false)) (λ c. (search dispatch_movement, search family_clocks))
    (λ c. search rules) (λ c κs. omega (arith, ltb-true, ltb-false)) (λ c. (search dispatch_integer, search family_clocks))
    (λ c. search rules) (λ c κs. omega (arith, ltb-true, ltb-false)) (λ c. (search dispatch_logical, search family_clocks))
    (λ c. search rules) (λ c κs. omega (arith, ltb-true, ltb-false)) (λ c. (search dispatch_control, search family_clocks))
    (λ c. search rules) (λ c κs. search rules) (λ c. (search dispatch_system, search family_clocks)))
