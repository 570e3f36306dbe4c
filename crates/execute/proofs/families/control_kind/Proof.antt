use Rattle.std.proofs.Common.{rules}
use Rattle.clocks.specs.Lines.{time, clocks}
use Rattle.execute.specs.Dispatch.{control_kind}
use Rattle.execute.proofs.ClockLaws.{arm_clocks, arm_plan, last_clocks, last_plan}
use Rattle.execute.proofs.DispatchLaws.{kept}
use Rattle.execute.proofs.families.control_kind.Statement.{statement}
use Rattle.execute.proofs.families.control_kind.Tie as tie

pub control_kind_spec : {M : Type 1} → statement M
unfolding control_kind clocks time
control_kind_spec =
    tie.close (tie.spec
    (λ c κs. search rules) (λ c κs. search rules) (λ c κs. search rules) (λ c κs. search rules) (λ c κs. search rules) (λ c κs. search rules)
    (λ c κs. search rules) (λ c κs. search rules) (λ c κs. search rules) (λ c κs. search rules) (λ c κs. search rules) (λ c κs. search rules)
    (λ c κs. search rules) (λ c κs. search rules) (λ c κs. search rules) (λ c κs. search rules) (λ c κs. search rules) (λ c κs. search rules)
    (λ c κs. search rules) (λ c κs. search rules) (λ c κs. search rules) (λ c κs. search rules) (λ c κs. search rules) (λ c κs. search rules)
    (λ c κs. search rules) (λ c κs. search rules) (λ c. (search (arm_plan, kept), search arm_clocks))
    (λ c. (search (arm_plan, kept), search arm_clocks)) (λ c. (search arm_plan, search arm_clocks)) (λ c. (search arm_plan, search arm_clocks))
    (λ c. (search arm_plan, search arm_clocks)) (λ c. (search (arm_plan, kept), search arm_clocks)) (λ c. (search arm_plan, search arm_clocks))
    (λ c. (search (arm_plan, kept), search arm_clocks)) (λ c. (search arm_plan, search arm_clocks))
    (λ c. (search (last_plan, c.before.before.before.in_default.in_default-own.rest), search (last_clocks 9, c.before.before.before.in_default.in_default-own.rest))))
